-- Items that are written one by one (on specs/Sequence.antt).
use Rattle.addr2line_c.proofs.Common.{◌≡◌, ◌++◌, ◌∷◌, ◌+◌, ◌-◌, ◌^◌, ◌<◌, ◌≤◌, ◌∙◌, ◌⊎◌, inl, inr, ℕ, suc, List, [], ap, refl, sym, subst, length, take, drop, arith, append_assoc, append-nil, length-append, take_all, IsFilled, saturated, EachNames, texts_of_items, written_items, zero_ended}
use Rattle.std.proofs.lemmas.Grind.{flat_map-append}
use Rattle.std.proofs.Math.Nat.{min-eq_left}
use Rattle.std.proofs.Math.Seq.{take-append_seam}

module _ {F W : Type 0} (texts : F → List (List ℕ)) (write : List (List ℕ) → F → W) where
  -- one more item
  pub written_more : (before : List (List ℕ)) (items : List F) (f : F)
      → written_items texts write before (items ++ f ∷ [])
      ≡ written_items texts write before items ++ write (before ++ texts_of_items texts items) f ∷ []
  written_more before [] f = ap (λ b. write b f ∷ []) (sym (append-nil before))
  written_more before (x ∷ items) f =
      ap (λ ws. write before x ∷ ws) (written_more (before ++ texts x) items f
      ∙ ap (λ b. written_items texts write (before ++ texts x) items ++ write b f ∷ [])
      (append_assoc before (texts x) (texts_of_items texts items)))

  pub texts_more : (items : List F) (f : F)
      → texts_of_items texts (items ++ f ∷ []) ≡ texts_of_items texts items ++ texts f
  texts_more items f = flat_map-append texts items (f ∷ [])
      ∙ ap (λ ts. texts_of_items texts items ++ ts) (append-nil (texts f))

  -- what was written of all items so far, and what is left of them
  pub record WroteSome (all left : List F) (count : ℕ) (out : List W) (used : ℕ) (buffer : List ℕ)
      : Type 0 where
    pub done : List F
    pub whole : done ++ left ≡ all
    pub items : IsFilled count out (written_items texts write [] done)
    pub texts_are : IsFilled used buffer (zero_ended (texts_of_items texts done))

  -- one more item was written
  pub wrote_one : (all left : List F) (f : F) (count count' : ℕ) (out out' : List W) (used used' : ℕ)
      (buffer buffer' : List ℕ) (w : W) → (so : WroteSome all (f ∷ left) count out used buffer)
      → w ≡ write (texts_of_items texts so.done) f
      → IsFilled used' buffer' (zero_ended (texts_of_items texts so.done ++ texts f))
      → IsFilled count' out' (written_items texts write [] so.done ++ w ∷ [])
      → WroteSome all left count' out' used' buffer'
  wrote_one all left f count count' out out' used used' buffer buffer' w so is ts ws = record {
    done = so.done ++ f ∷ [];
    whole = append_assoc so.done (f ∷ []) left ∙ so.whole;
    items = subst (IsFilled count' out')
        (ap (λ x. written_items texts write [] so.done ++ x ∷ []) is ∙ sym (written_more [] so.done f)) ws;
    texts_are = subst (λ t. IsFilled used' buffer' (zero_ended t)) (sym (texts_more so.done f)) ts;
  }

  -- nothing was written yet
  pub wrote_none : (all : List F) (out : List W) (buffer : List ℕ) → WroteSome all all 0 out 0 buffer
  wrote_none all out buffer = record {
    done = [];
    whole = refl;
    items = record { needed = refl; front = λ _. refl };
    texts_are = record { needed = refl; front = λ _. refl };
  }

  -- all that was written, where nothing is left
  pub done_all : (all left : List F) (count : ℕ) (out : List W) (used : ℕ) (buffer : List ℕ)
      → (so : WroteSome all left count out used buffer) → left ≡ [] → so.done ≡ all
  done_all all left count out used buffer so none =
      sym (append-nil so.done) ∙ ap (λ l. so.done ++ l) (sym none) ∙ so.whole

  -- the items, where nothing is left
  pub wrote_items : (all left : List F) (count : ℕ) (out : List W) (used : ℕ) (buffer : List ℕ)
      → WroteSome all left count out used buffer → left ≡ []
      → IsFilled count out (written_items texts write [] all)
  wrote_items all left count out used buffer so none =
      subst (λ l. IsFilled count out (written_items texts write [] l))
      (done_all all left count out used buffer so none) so.items

  -- the texts, where nothing is left
  pub wrote_texts : (all left : List F) (count : ℕ) (out : List W) (used : ℕ) (buffer : List ℕ)
      → WroteSome all left count out used buffer → left ≡ []
      → IsFilled used buffer (zero_ended (texts_of_items texts all))
  wrote_texts all left count out used buffer so none =
      subst (λ l. IsFilled used buffer (zero_ended (texts_of_items texts l)))
      (done_all all left count out used buffer so none) so.texts_are

  -- as many are written as there are items
  pub length-written_items : (before : List (List ℕ)) (items : List F)
      → length (written_items texts write before items) ≡ length items
  length-written_items before [] = refl
  length-written_items before (f ∷ items) =
      ap suc (length-written_items (before ++ texts f) items)

  -- how many were written
  done_within : (all left : List F) (count : ℕ) (out : List W) (used : ℕ) (buffer : List ℕ)
      → (so : WroteSome all left count out used buffer) (room : ℕ)
      → length all ≤ length left + room → length so.done ≤ room
  done_within all left count out used buffer so room fits =
      omega (arith, fits, ap length so.whole, length-append so.done left)

  count_is : (all left : List F) (count : ℕ) (out : List W) (used : ℕ) (buffer : List ℕ)
      → (so : WroteSome all left count out used buffer) → length so.done < 2 ^ 64
      → count ≡ length so.done
  count_is all left count out used buffer so small =
      let within : length so.done ≤ 2 ^ 64 - 1 = omega (arith, small) in
      so.items.needed ∙ ap saturated (length-written_items [] so.done) ∙ min-eq_left within

  -- one more has room where fewer were written than there is room for
  pub room_left : (all left : List F) (f : F) (count : ℕ) (out : List W) (used : ℕ) (buffer : List ℕ)
      → WroteSome all (f ∷ left) count out used buffer → (room : ℕ) → room < 2 ^ 64
      → length all ≤ length (f ∷ left) + room → count < room → length all ≤ length left + room
  room_left all left f count out used buffer so room small fits below =
      let within = done_within all (f ∷ left) count out used buffer so room fits in
      let is = count_is all (f ∷ left) count out used buffer so (omega (arith, within, small)) in
      omega (arith, is, below, ap length so.whole, length-append so.done (f ∷ left))

  -- what was written is the beginning that has room
  done_first : (all left : List F) (count : ℕ) (out : List W) (used : ℕ) (buffer : List ℕ)
      → (so : WroteSome all left count out used buffer) (room : ℕ) → room < 2 ^ 64
      → length all ≤ length left + room → (room ≤ count) ⊎ (left ≡ []) → so.done ≡ take room all
  done_first all left count out used buffer so room small fits (inl full) =
      let within = done_within all left count out used buffer so room fits in
      let is = count_is all left count out used buffer so (omega (arith, within, small)) in
      let long : length so.done ≡ room = omega (arith, is, full, within) in
      sym (take-append_seam so.done left) ∙ ap (take (length so.done)) so.whole ∙ ap (λ n. take n all) long
  done_first all left count out used buffer so room small fits (inr none) =
      let few : length all ≤ room = omega (arith, fits, ap length none) in
      done_all all left count out used buffer so none ∙ sym (take_all room all few)

  pub first_items : (all left : List F) (count : ℕ) (out : List W) (used : ℕ) (buffer : List ℕ)
      → WroteSome all left count out used buffer → (room : ℕ) → room < 2 ^ 64
      → length all ≤ length left + room → (room ≤ count) ⊎ (left ≡ [])
      → IsFilled count out (written_items texts write [] (take room all))
  first_items all left count out used buffer so room small fits ended =
      subst (λ l. IsFilled count out (written_items texts write [] l))
      (done_first all left count out used buffer so room small fits ended) so.items

  pub first_texts : (all left : List F) (count : ℕ) (out : List W) (used : ℕ) (buffer : List ℕ)
      → WroteSome all left count out used buffer → (room : ℕ) → room < 2 ^ 64
      → length all ≤ length left + room → (room ≤ count) ⊎ (left ≡ [])
      → IsFilled used buffer (zero_ended (texts_of_items texts (take room all)))
  first_texts all left count out used buffer so room small fits ended =
      subst (λ l. IsFilled used buffer (zero_ended (texts_of_items texts l)))
      (done_first all left count out used buffer so room small fits ended) so.texts_are

  module _ (names : W → F → Type 0) where
    -- each of those that are written names its texts
    each_written : (whole : List (List ℕ))
        → ((before after : List (List ℕ)) (f : F) → before ++ (texts f ++ after) ≡ whole
        → names (write before f) f)
        → (before : List (List ℕ)) (items : List F) → before ++ texts_of_items texts items ≡ whole
        → EachNames names (written_items texts write before items) items
    each_written whole named before [] is = tt
    each_written whole named before (f ∷ items) is = (
      named before (texts_of_items texts items) f is,
      each_written whole named (before ++ texts f) items
          (append_assoc before (texts f) (texts_of_items texts items) ∙ is),
    )

    -- the same of a list that has them at its front
    each_front : (ws out : List W) (items : List F) → take (length ws) out ≡ ws
        → EachNames names ws items → EachNames names out items
    each_front ws out [] is each = tt
    each_front [] out (f ∷ items) is each = absurd each
    each_front (w ∷ ws) [] (f ∷ items) is each = absurd cc
    each_front (w ∷ ws) (x ∷ out) (f ∷ items) is each =
        let first : x ≡ w = ap (λ (l : List W). elim l [ [] ↦ w | y ∷ ys ↦ y ]) is in (
          subst (λ y. names y f) (sym first) each.0,
          each_front ws out items (ap (drop 1) is) each.1,
        )

    -- where an array has room for all items, each that is written there names its texts
    pub each_named : (count : ℕ) (out : List W) (items : List F)
        → IsFilled count out (written_items texts write [] items) → length items ≤ length out
        → ((before after : List (List ℕ)) (f : F)
        → before ++ (texts f ++ after) ≡ texts_of_items texts items → names (write before f) f)
        → EachNames names out items
    each_named count out items filled room named = each_front (written_items texts write [] items) out items
        (filled.front (subst (λ n. n ≤ length out) (sym (length-written_items [] items)) room))
        (each_written (texts_of_items texts items) named [] items refl)

-- Lists of ranges as they are stored, by what they stand for.
use Rattle.addr2line_lines.proofs.Common.{ℕ, ◌≡◌, ◌+◌, ◌-◌, ◌≤◌, Bool, true, false, List, [], ◌∷◌, ◌++◌, drop, length, map, take, get_or, arith, ap, sym, subst, ◌∙◌, length-drop, AllWithin, IsPartitionPoint, IsPartitionedBy, IsSortedBy, take-length, length-map, map-append, take-map, drop-map, between}
use Rattle.std.proofs.Math.ListN.{get_or-map}
use Rattle.std.proofs.lemmas.List.{get_or-map as get_or-map-within}

module _ {X Y : Type 0} (f : X → Y) where
  -- images are sorted where elements are by their images
  pub images_sorted : (lt : Y → Y → Bool) (xs : List X) → IsSortedBy (λ x y. lt (f x) (f y)) xs → IsSortedBy lt (map f xs)
  images_sorted lt [] up = λ k d low high. absurd (omega arith)
  images_sorted lt (x ∷ xs) up = λ k d low high.
      let n = length-map (x ∷ xs) f in
      let ys = map f (x ∷ xs) in
      ap (λ y. lt y (get_or ys k d)) (get_or-map-within f (x ∷ xs) (k + 1) x d (omega arith))
      ∙ ap (λ y. lt (f (get_or (x ∷ xs) (k + 1) x)) y) (get_or-map-within f (x ∷ xs) k x d (omega arith))
      ∙ up k x low (omega arith)

  module _ (p : Y → Bool) where
    -- a test that parts images parts elements by their images
    pub images_parted : (xs : List X) → IsPartitionedBy p (map f xs) → IsPartitionedBy (λ x. p (f x)) xs
    images_parted xs parted i j d le l h =
        let n = length-map xs f in
        ap p (sym (get_or-map f xs i d)) ∙ parted i j (f d) le (omega arith) (ap p (get_or-map f xs j d) ∙ h)

    within_images : (P : Y → Type 0) (xs : List X) (low high : ℕ) → high ≤ length xs → AllWithin (λ x. P (f x)) xs low high → AllWithin P (map f xs) low high
    within_images P [] low high bound all = λ k d l h. absurd (omega arith)
    within_images P (x ∷ xs) low high bound all = λ k d l h. subst P (sym (get_or-map-within f (x ∷ xs) k x d (omega arith))) (all k x l h)

    -- and parts both at one place
    pub images_point : (xs : List X) (n : ℕ) → n ≤ length xs → IsPartitionPoint (λ x. p (f x) ≡ true) (λ x. p (f x) ≡ false) xs n → IsPartitionPoint (λ y. p y ≡ true) (λ y. p y ≡ false) (map f xs) n
    images_point xs n bound point = (
      within_images (λ y. p y ≡ true) xs 0 n bound point.0,
      subst (AllWithin (λ y. p y ≡ false) (map f xs) n) (sym (length-map xs f)) (within_images (λ y. p y ≡ false) xs n (length xs) (omega arith) point.1),
    )

  -- what the images from a place on become, those of all do
  pub images_from : (g : List Y → List Y) (start : ℕ) (xs ys zs : List X) → ys ≡ take start xs ++ zs → map f zs ≡ g (map f (take (length xs - start) (drop start xs))) → map f ys ≡ take start (map f xs) ++ g (drop start (map f xs))
  images_from g start xs ys zs e h =
      let all : take (length xs - start) (drop start xs) ≡ drop start xs = ap (λ n. take n (drop start xs)) (sym (length-drop start xs)) ∙ take-length (drop start xs) in
      ap (map f) e ∙ map-append f (take start xs) zs ∙ ap (λ vs. map f (take start xs) ++ vs) (h ∙ ap (λ rest. g (map f rest)) all ∙ ap g (sym (drop-map f start xs)))
      ∙ ap (λ us. us ++ g (drop start (map f xs))) (sym (take-map f start xs))

  -- the images between two places are those places' among the images
  pub images_between : (begin end : ℕ) (rs xs : List X) (ys : List Y) → rs ≡ xs → map f xs ≡ ys → map f (between begin end rs) ≡ between begin end ys
  images_between begin end rs xs ys e h =
      ap (λ vs. map f (between begin end vs)) e ∙ sym (take-map f (end - begin) (drop begin xs)) ∙ ap (take (end - begin)) (sym (drop-map f begin xs)) ∙ ap (between begin end) h

  -- the image of an element by its place
  pub image_at : (xs : List X) (i : ℕ) (x : X) (y : Y) → y ≡ f x → x ≡ get_or xs i x → y ≡ get_or (map f xs) i (f x)
  image_at xs i x y e at = e ∙ ap f at ∙ sym (get_or-map f xs i x)

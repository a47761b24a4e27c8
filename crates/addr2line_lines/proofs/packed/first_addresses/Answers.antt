use Rattle.addr2line_lines.proofs.Common.{◌≡◌, ℕ, ◌+◌, ◌*◌, ◌<◌, List, [], ◌∷◌, ◌++◌, length, slice_index, ap, sym, subst, ◌∙◌, get_or_append_left, get_or_push, length_push, row_address_at}
use borrow.Author.Count.{below_more}
use Rattle.addr2line_lines.proofs.packed.first_addresses.Goals as goal

-- each element, after one more
each_pushed : (xs ys : List ℕ) (y n : ℕ) (value : ℕ → ℕ) → ys ≡ xs ++ y ∷ [] → length xs ≡ n → ((j : ℕ) → j < n → slice_index xs j ≡ value j) → y ≡ value n → (j : ℕ) → j < n + 1 → slice_index ys j ≡ value j
each_pushed xs ys y n value h l below here = below_more (λ j. slice_index ys j ≡ value j) n
    (λ j k. ap (λ zs. slice_index zs j) h ∙ get_or_append_left xs (y ∷ []) 0 j (subst (λ m. j < m) (sym l) k) ∙ below j k)
    (ap (λ zs. slice_index zs n) h ∙ get_or_push xs y 0 n l ∙ here)

pub loop-block-preserved : goal.loop-block-preserved
loop-block-preserved c =
    let i = c.loop-block.invariant in
    let items = c.loop-block.coarse.items in
    record {
      len = ap length c.in_ok-push.ensures.items ∙ length_push items c.address.result ∙ ap (λ n. n + 1) i.len;
      each = each_pushed items c.push.new.self.items c.address.result c.loop-block.block (λ j. row_address_at c.args.rows.now.rows (64 * j)) c.in_ok-push.ensures.items i.len i.each c.address.ensures.gives;
    }

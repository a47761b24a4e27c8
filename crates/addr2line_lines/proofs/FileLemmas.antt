-- The texts of files, one at a time (on specs/FileTexts.antt).
use Rattle.addr2line_lines.proofs.Common.{◌≡◌, ℕ, ◌+◌, ◌<◌, ◌≤◌, List, [], ◌∷◌, ◌++◌, length, drop, get_or, Result, Ok, Err, refl, sym, ap, ◌∙◌, append_assoc, append-nil, at_drop_more, at_drop_all, Error, ◌>>=◌, File, Header, Sections, UnitRecord}
use Rattle.addr2line_lines.specs.FileTexts.{text_of_file, texts_of, texts_after}

module _ (d : Sections) (u : UnitRecord) (h : Header) where
  front_more : (front : List (List ℕ)) (t : List ℕ) (r : Result (List (List ℕ)) Error) → texts_after front (r >>= λ more. Ok (t ∷ more)) ≡ texts_after (front ++ t ∷ []) r
  front_more front t (Ok ts) = ap Ok (sym (append_assoc front (t ∷ []) ts))
  front_more front t (Err e) = refl

  pub texts_more : (front : List (List ℕ)) (files : List (File)) (i : ℕ) (f : File) (t : List ℕ) → i < length files → f ≡ get_or files i f → text_of_file d u h f ≡ Ok t
      → texts_after front (texts_of d u h (drop i files)) ≡ texts_after (front ++ t ∷ []) (texts_of d u h (drop (i + 1) files))
  unfolding texts_of
  texts_more front files i f t lt is e =
      at_drop_more (λ fs. texts_after front (texts_of d u h fs)) files i f lt
      ∙ ap (λ g. texts_after front (text_of_file d u h g >>= λ text. texts_of d u h (drop (i + 1) files) >>= λ more. Ok (text ∷ more))) (sym is)
      ∙ ap (λ r. texts_after front (r >>= λ text. texts_of d u h (drop (i + 1) files) >>= λ more. Ok (text ∷ more))) e
      ∙ front_more front t (texts_of d u h (drop (i + 1) files))

  pub texts_fault : (front : List (List ℕ)) (files : List (File)) (i : ℕ) (f : File) (d' : Error) → i < length files → f ≡ get_or files i f → text_of_file d u h f ≡ Err d'
      → texts_after front (texts_of d u h (drop i files)) ≡ Err d'
  unfolding texts_of
  texts_fault front files i f d' lt is e =
      at_drop_more (λ fs. texts_after front (texts_of d u h fs)) files i f lt
      ∙ ap (λ g. texts_after front (text_of_file d u h g >>= λ text. texts_of d u h (drop (i + 1) files) >>= λ more. Ok (text ∷ more))) (sym is)
      ∙ ap (λ r. texts_after front (r >>= λ text. texts_of d u h (drop (i + 1) files) >>= λ more. Ok (text ∷ more))) e

  pub texts_end : (front : List (List ℕ)) (files : List (File)) (i : ℕ) → length files ≤ i → texts_after front (texts_of d u h (drop i files)) ≡ Ok front
  unfolding texts_of
  texts_end front files i h' = at_drop_all (λ fs. texts_after front (texts_of d u h fs)) files i h' ∙ ap Ok (append-nil front)

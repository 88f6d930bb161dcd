-- What a loop over the pieces between separators takes: one by one those that stand there.
use Rattle.std.proofs.Common.{◌≡◌, ℕ, suc, ◌+◌, ◌<◌, List, [], ◌∷◌, ◌++◌, length, get_or, drop, Option, Some, None, Bool, false, nat_eq, Bor, sym, ap, ◌∙◌, add-one, drop-cons, arith}
use denote.Param.Members.{Mut}
use Rattle.std.specs.Fn.{CalledAt}
use Rattle.std.specs.Iterator.{Yields}
use Rattle.std.specs.List.{slice_split}
use Rattle.std.specs.Slice.Iter.{split_rest, split_done, split_callee, split_steps}
use Rattle.std.proofs.lemmas.Iterator.{YieldsList}
use Rattle.std.proofs.lemmas.Iterator.Consumers.{YieldsList-turn, YieldsList-end}
use Rattle.std.proofs.lemmas.Iterator.Splits.{YieldsList-from_slice_split}
use Rattle.std.proofs.lemmas.List.{length_push, drop_all}

ahead : (pieces : List (List ℕ)) (n m : ℕ) (piece : List ℕ) → (n < length pieces) × (piece ≡ get_or pieces n piece) → m ≡ n + 1 → drop n pieces ≡ piece ∷ drop m pieces
ahead pieces n m piece h e = rw (e, add-one) (drop-cons pieces n piece h.0 ∙ ap (λ w. w ∷ drop (suc n) pieces) (sym h.1))

module _ {F : Type 0} {s made : _} (g : Mut F (Bor ℕ × Unit {0}) Bool) (separator : ℕ) (word : List ℕ) {f : F} (same : s ≡ made) (rest : split_rest made ≡ word) (begun : split_done made ≡ false) (callee : split_callee made ≡ f)
    (separates : (x : ℕ) (b : Bool) (q : F) → CalledAt g f x b q → (q ≡ f) × (b ≡ nat_eq x separator)) where
  abbrev pieces : List (List ℕ)
  pieces = slice_split (λ b. nat_eq b separator) word

  road : YieldsList (split_steps g) (λ x. x.now) s pieces
  road = YieldsList-from_slice_split g (λ b. nat_eq b separator) word (ap split_rest same ∙ rest) (ap split_done same ∙ begun) (ap split_callee same ∙ callee) separates

  -- the next piece stands at the front of what is left
  pub next_piece : (xs : List (Bor (List ℕ))) (t : _) → Yields (split_steps g) s xs t → (r : Option (Bor (List ℕ))) (u : _) (piece : Bor (List ℕ)) → r ≡ Some piece → split_steps g t r u
      → drop (length xs) pieces ≡ piece.now ∷ drop (length (xs ++ piece ∷ [])) pieces
  next_piece xs t y r u piece is steps = ahead pieces (length xs) _ piece.now (YieldsList-turn road xs t y r u piece is steps) (length_push xs piece)

  -- behind the last nothing is left
  pub no_piece : (xs : List (Bor (List ℕ))) (t : _) → Yields (split_steps g) s xs t → (r : Option (Bor (List ℕ))) (u : _) → r ≡ None → split_steps g t r u → drop (length xs) pieces ≡ []
  no_piece xs t y r u is steps = drop_all (length xs) pieces (omega (arith, (YieldsList-end road xs t y r u is steps).1))

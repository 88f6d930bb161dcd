-- The places behind tokens.
use Rattle.std.proofs.Common.{◌≡◌, ℕ, zero, suc, ◌+◌, List, [], ◌∷◌, ◌++◌, refl, sym, ap, ◌∙◌, arith}
use Rattle.std.specs.Prelude.{drop, length, filter}
use Rattle.std.proofs.lemmas.List.{length-append}
use Rattle.std.proofs.lemmas.List.Elements.{filter-append}
use Rattle.std.proofs.Math.Seq.{drop-nil}
use Rattle.ver_ast.specs.declared.place.VPlace.{VPlace}
use Rattle.ver_ast.specs.Tokens.{VToken}
use Rattle.ver_ast.specs.Spells.{has_place}
use Rattle.ver_places.specs.Places.{places_in, behind}

pub drop_twice : {T : Type 0} (m n : ℕ) (xs : List T) → drop n (drop m xs) ≡ drop (m + n) xs
drop_twice zero n xs = let same : n ≡ 0 + n = omega arith in ap (λ (k : ℕ). drop k xs) same
drop_twice (suc m) n [] = drop-nil n ∙ sym (drop-nil (suc m + n))
drop_twice (suc m) n (x ∷ xs) = let same : suc (m + n) ≡ suc m + n = omega arith in drop_twice m n xs ∙ ap (λ (k : ℕ). drop k (x ∷ xs)) same

pub places_both : (ts us : List VToken) → places_in (ts ++ us) ≡ places_in ts + places_in us
places_both ts us = ap length (filter-append has_place ts us) ∙ length-append (filter has_place ts) (filter has_place us)

-- behind tokens and behind others
pub behind_both : (ts us : List VToken) (ps : List VPlace) → behind us (behind ts ps) ≡ behind (ts ++ us) ps
behind_both ts us ps = drop_twice (places_in ts) (places_in us) ps ∙ ap (λ (n : ℕ). drop n ps) (sym (places_both ts us))

pub drop_one : {T : Type 0} (n : ℕ) (xs : List T) → drop n (drop 1 xs) ≡ drop (suc n) xs
drop_one n [] = drop-nil n
drop_one n (x ∷ xs) = refl

pub drop_two : {T : Type 0} (n : ℕ) (xs : List T) → drop n (drop 2 xs) ≡ drop (suc (suc n)) xs
drop_two n [] = drop-nil n
drop_two n (x ∷ []) = drop-nil n
drop_two n (x ∷ y ∷ xs) = refl

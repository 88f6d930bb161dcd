-- A test that finds ends of small circuits distinct.
use Rattle.std.proofs.Common.{◌≡◌, ℕ, List, [], ◌∷◌, Bool, true, false, not, ◌&&◌, nat_eq, refl, sym, ap, ◌∙◌, inl, inr, arith}
use Rattle.std.specs.Str.{bytes_eq}
use Rattle.std.proofs.lemmas.Bool.Decides.{nat_tests}
use Rattle.fir_base.specs.Lists.{In, Distinct}
use Rattle.fir_base.proofs.SameNames.{name_same}
use Rattle.fir_base.proofs.Tests.{both}
use Rattle.fir_meaning.specs.LeafPaths.{Step, LeafPath, named, element}
use Rattle.fir_meaning.specs.ResetItems.{ResetItem, leaf_item, value_item, End}

abbrev is_step : Step → Step → Bool
is_step (named x) (named y) = bytes_eq x y
is_step (element i) (element j) = nat_eq i j
is_step _ _ = false

abbrev is_path : LeafPath → LeafPath → Bool
is_path [] [] = true
is_path (s ∷ p) (t ∷ q) = is_step s t && is_path p q
is_path _ _ = false

abbrev is_item : ResetItem → ResetItem → Bool
is_item (leaf_item n p) (leaf_item m q) = nat_eq n m && is_path p q
is_item (value_item p) (value_item q) = nat_eq p.line q.line && nat_eq p.col q.col
is_item _ _ = false

number_same : (n : ℕ) → nat_eq n n ≡ true
number_same n = grind (arith, nat_tests)

step_same : (s : Step) → is_step s s ≡ true
step_same (named x) = name_same x
step_same (element i) = number_same i

path_same : (p : LeafPath) → is_path p p ≡ true
path_same [] = refl
path_same (s ∷ p) = rw (step_same s) (path_same p)

item_same : (a : ResetItem) → is_item a a ≡ true
item_same (leaf_item n p) = rw (number_same n) (path_same p)
item_same (value_item p) = rw (number_same p.line) (number_same p.col)

abbrev is_unlike : End → List End → Bool
is_unlike e [] = true
is_unlike e (f ∷ fs) = not (is_item f.item e.item) && is_unlike e fs

abbrev pub are_unlike : List End → Bool
are_unlike [] = true
are_unlike (e ∷ es) = is_unlike e es && are_unlike es

not_that : (b : Bool) → b ≡ true → not b ≡ true → ⊥
not_that true h k = let n : false ≡ true = k in cc
not_that false h k = let n : false ≡ true = h in cc

not_in : (e : End) (es : List End) → is_unlike e es ≡ true → In es e → ⊥
not_in e [] h m = m
not_in e (f ∷ fs) h (inl same) =
    let r = both (not (is_item f.item e.item)) (is_unlike e fs) h in
    not_that (is_item f.item e.item) (ap (λ (x : End). is_item f.item x.item) (sym same) ∙ item_same f.item) r.0
not_in e (f ∷ fs) h (inr m) = not_in e fs (both (not (is_item f.item e.item)) (is_unlike e fs) h).1 m

pub ends_distinct : (es : List End) → are_unlike es ≡ true → Distinct es
ends_distinct [] h = tt
ends_distinct (e ∷ es) h = let r = both (is_unlike e es) (are_unlike es) h in (not_in e es r.0, ends_distinct es r.1)

-- For each name the number of its first member, with one member more.
use Rattle.std.proofs.Common.{◌≡◌, ℕ, suc, ◌+◌, ◌<◌, List, [], ◌∷◌, ◌++◌, Bool, true, false, cond, length, take, get_or, refl, sym, ap, ◌∙◌, arith}
use Rattle.std.specs.Prelude.{Option, Some, None, is_some}
use Rattle.std.specs.Option.{option_or}
use Rattle.std.specs.BTreeMap.{BTreeMap, get}
use Rattle.std.specs.BTreeMap as tree
use Rattle.std.specs.Cmp.Lexicographic.{slice_cmp}
use Rattle.std.specs.Ordering.{nat_cmp}
use Rattle.std.specs.Str.{bytes_eq}
use Rattle.std.proofs.lemmas.Map.Text.{is_eq-slice_cmp}
use Rattle.std.proofs.lemmas.List.{take_more, length-take-le}
use Rattle.fir_base.proofs.SameNames.{name_is}
use Rattle.fir_type_table.specs.declared.entry.Member.{Member}
use Rattle.fir_type_table.specs.working.Fits.{first_member}

abbrev pub HasFirsts : BTreeMap (List ℕ) ℕ → List Member → Type 0
HasFirsts numbers ms = (n : List ℕ) → get (slice_cmp nat_cmp) numbers n ≡ first_member n 0 ms

or_cond : (b : Bool) (x : ℕ) (y z : Option ℕ) → cond b (Some x) (option_or y z) ≡ option_or (cond b (Some x) y) z
or_cond true x y z = refl
or_cond false x y z = refl

first_last : (name : List ℕ) (i j : ℕ) (ms : List Member) (m : Member) → i + length ms ≡ j
    → first_member name i (ms ++ m ∷ []) ≡ option_or (first_member name i ms) (cond (bytes_eq m.name name) (Some j) None)
first_last name i j [] m e = let same : i ≡ j = omega arith in ap (λ k. cond (bytes_eq m.name name) (Some k) None) same
first_last name i j (x ∷ ms) m e =
    ap (cond (bytes_eq x.name name) (Some i)) (first_last name (suc i) j ms m (omega arith))
    ∙ or_cond (bytes_eq x.name name) i (first_member name (suc i) ms) (cond (bytes_eq m.name name) (Some j) None)

-- the last is told where its name was not found, and else nothing changes
found_last : (b : Bool) (last : ℕ) (under found : Option ℕ) → (b ≡ true → None ≡ under) → under ≡ found
    → cond b (Some last) under ≡ option_or found (cond b (Some last) None)
found_last true last under None missing same = refl
found_last true last under (Some x) missing same = absurd (let none : None ≡ under = missing refl in cc)
found_last false last under None missing same = same
found_last false last under (Some x) missing same = same

found_before : (b : Bool) (last : ℕ) (under found : Option ℕ) → (b ≡ true → is_some under ≡ true) → under ≡ found
    → under ≡ option_or found (cond b (Some last) None)
found_before true last under None there same = absurd (let some : is_some under ≡ true = there refl in let none : is_some under ≡ false = ap is_some same in cc)
found_before true last under (Some x) there same = same
found_before false last under None there same = same
found_before false last under (Some x) there same = same

none_there : (o : Option ℕ) → is_some o ≡ false → None ≡ o
none_there None h = refl
none_there (Some x) h = absurd (cc)

taken : (ms : List Member) (i : ℕ) (m : Member) → i < length ms → m ≡ get_or ms i m → take (i + 1) ms ≡ take i ms ++ m ∷ []
taken ms i m within at = take_more ms i m within ∙ ap (λ x. take i ms ++ x ∷ []) (sym at)

pub firsts_kept : (numbers : BTreeMap (List ℕ) ℕ) (ms : List Member) (i : ℕ) (m : Member) → i < length ms → m ≡ get_or ms i m
    → is_some (get (slice_cmp nat_cmp) numbers m.name) ≡ true → HasFirsts numbers (take i ms) → HasFirsts numbers (take (i + 1) ms)
firsts_kept numbers ms i m within at known h = λ q.
    let there : bytes_eq m.name q ≡ true → is_some (get (slice_cmp nat_cmp) numbers q) ≡ true =
    λ e. ap (λ n. is_some (get (slice_cmp nat_cmp) numbers n)) (sym (name_is m.name q e)) ∙ known in
    let counted : 0 + length (take i ms) ≡ i = omega (arith, length-take-le i ms (omega arith)) in
    found_before (bytes_eq m.name q) i (get (slice_cmp nat_cmp) numbers q) (first_member q 0 (take i ms)) there (h q)
    ∙ sym (ap (first_member q 0) (taken ms i m within at) ∙ first_last q 0 i (take i ms) m counted)

pub firsts_more : (old new : BTreeMap (List ℕ) ℕ) (ms : List Member) (i : ℕ) (m : Member) → i < length ms → m ≡ get_or ms i m
    → tree.Updates (slice_cmp nat_cmp) old new m.name (Some i) → is_some (get (slice_cmp nat_cmp) old m.name) ≡ false
    → HasFirsts old (take i ms) → HasFirsts new (take (i + 1) ms)
firsts_more old new ms i m within at u unknown h = λ q.
    let under : Option ℕ = get (slice_cmp nat_cmp) old q in
    let none : None ≡ get (slice_cmp nat_cmp) old m.name = none_there (get (slice_cmp nat_cmp) old m.name) unknown in
    let missing : bytes_eq m.name q ≡ true → None ≡ under = λ e. none ∙ ap (get (slice_cmp nat_cmp) old) (name_is m.name q e) in
    let counted : 0 + length (take i ms) ≡ i = omega (arith, length-take-le i ms (omega arith)) in
    u.0 q ∙ ap (λ b. cond b (Some i) under) (is_eq-slice_cmp m.name q)
    ∙ found_last (bytes_eq m.name q) i under (first_member q 0 (take i ms)) missing (h q)
    ∙ sym (ap (first_member q 0) (taken ms i m within at) ∙ first_last q 0 i (take i ms) m counted)

-- Where words stand: that of each name is found by its number.
use Rattle.std.proofs.Common.{◌≡◌, ℕ, zero, suc, ◌+◌, List, [], ◌∷◌, ◌++◌, length, map, take, drop, cond, true, false, Bool, refl, sym, ap, ◌∙◌, arith}
use Rattle.std.specs.Prelude.{Some, slice_get}
use Rattle.std.specs.Str.{bytes_eq}
use Rattle.std.proofs.lemmas.List.{length-map}
use Rattle.fir_base.specs.Lists.{Distinct}
use Rattle.fir_base.proofs.Elements.{get_in}
use Rattle.fir_base.proofs.SameNames.{name_same, name_other}
use Rattle.ver_ast.specs.Nets.{SizedNet, Variable, reg_variable, variable_names}
use Rattle.ver_ast.specs.Stores.{store_of}
use Rattle.ver_sim.specs.declared.declarations.Span.{Span}
use Rattle.ver_sim.specs.working.FlatStates.{base_of, depth_of}
use Rattle.ver_sim.specs.working.Spans.{spans_from}

spans_long : (base : ℕ) (ks : List Variable) → length (spans_from base ks) ≡ length ks
spans_long base [] = refl
spans_long base (k ∷ ks) = ap suc (spans_long (base + k.depth) ks)

pub all_spans : (none first all : List Span) (rs : List SizedNet) (ks : List Variable) → none ≡ [] → first ≡ none ++ spans_from (length none) (map reg_variable rs)
    → all ≡ first ++ spans_from (length first) ks → all ≡ spans_from 0 (map reg_variable rs) ++ spans_from (length rs) ks
all_spans none first all rs ks e f a =
    let is : first ≡ spans_from 0 (map reg_variable rs) = f ∙ ap (λ (n : List Span). n ++ spans_from (length n) (map reg_variable rs)) e in
    a ∙ ap (λ (s : List Span). s ++ spans_from (length s) ks) is
    ∙ ap (λ (n : ℕ). spans_from 0 (map reg_variable rs) ++ spans_from n ks) (spans_long 0 (map reg_variable rs) ∙ length-map rs reg_variable)

-- registers have one word each
spans_joined : (base : ℕ) (rs : List SizedNet) (ks : List Variable) → spans_from base (map reg_variable rs ++ ks) ≡ spans_from base (map reg_variable rs) ++ spans_from (base + length rs) ks
spans_joined base [] ks = let e : base ≡ base + 0 = omega arith in ap (λ (b : ℕ). spans_from b ks) e
spans_joined base (r ∷ rs) ks =
    let e : base + 1 + length rs ≡ base + suc (length rs) = omega arith in
    ap (λ (s : List Span). record { base = base; depth = 1 } ∷ s) (spans_joined (base + 1) rs ks ∙ ap (λ (b : ℕ). spans_from (base + 1) (map reg_variable rs) ++ spans_from b ks) e)

pub one_list : (rs : List SizedNet) (ks : List Variable) → spans_from 0 (map reg_variable rs) ++ spans_from (length rs) ks ≡ spans_from 0 (map reg_variable rs ++ ks)
one_list rs ks =
    let e : length rs ≡ 0 + length rs = omega arith in
    ap (λ (b : ℕ). spans_from 0 (map reg_variable rs) ++ spans_from b ks) e ∙ sym (spans_joined 0 rs ks)

-- the span of that number is the one of its name
span_at : (base : ℕ) (ks : List Variable) → Distinct (variable_names ks) → (i : ℕ) (n : List ℕ) → slice_get (variable_names ks) i ≡ Some n
    → slice_get (spans_from base ks) i ≡ Some (record { base = base + base_of ks n; depth = depth_of ks n })
span_at base [] d i n e = absurd (cc)
span_at base (k ∷ ks) d zero n e =
    let same : bytes_eq k.name n ≡ true = let s : k.name ≡ n = cc in ap (bytes_eq k.name) (sym s) ∙ name_same k.name in
    let none : base ≡ base + 0 = omega arith in
    sym (ap (λ (b : Bool). Some (record { base = base + cond b 0 (k.depth + base_of ks n); depth = cond b k.depth (depth_of ks n) })) same
    ∙ ap (λ (x : ℕ). Some (record { base = x; depth = k.depth })) (sym none))
span_at base (k ∷ ks) d (suc i) n e =
    let other : bytes_eq k.name n ≡ false = name_other k.name n (λ s. d.0 (rw s (get_in (variable_names ks) i n e))) in
    let sum : base + k.depth + base_of ks n ≡ base + (k.depth + base_of ks n) = omega arith in
    span_at (base + k.depth) ks d.1 i n e
    ∙ ap (λ (x : ℕ). Some (record { base = x; depth = depth_of ks n })) sum
    ∙ sym (ap (λ (b : Bool). Some (record { base = base + cond b 0 (k.depth + base_of ks n); depth = cond b k.depth (depth_of ks n) })) other)

pub span_is : (ks : List Variable) → Distinct (variable_names ks) → (i : ℕ) (n : List ℕ) → slice_get (variable_names ks) i ≡ Some n
    → slice_get (spans_from 0 ks) i ≡ Some (record { base = base_of ks n; depth = depth_of ks n })
span_is ks d i n e =
    let none : 0 + base_of ks n ≡ base_of ks n = omega arith in
    span_at 0 ks d i n e ∙ ap (λ (x : ℕ). Some (record { base = x; depth = depth_of ks n })) none

-- the words of a name stand from its base on
pub words_are : (ks : List Variable) (state name : List ℕ) → store_of ks state name ≡ take (depth_of ks name) (drop (base_of ks name) state)
words_are [] state name = refl
words_are (k ∷ ks) state name = by (bytes_eq k.name name) (words_are ks (drop k.depth state) name)
  where
    dropped : (d b : ℕ) (xs : List ℕ) → drop b (drop d xs) ≡ drop (d + b) xs
    dropped zero b xs = let e : b ≡ 0 + b = omega arith in ap (λ (j : ℕ). drop j xs) e
    dropped (suc d) zero [] = let e : suc d ≡ suc d + 0 = omega arith in ap (λ (j : ℕ). drop j []) e
    dropped (suc d) (suc b) [] = let e : suc (d + suc b) ≡ suc d + suc b = omega arith in ap (λ (j : ℕ). drop j []) e
    dropped (suc d) b (x ∷ xs) = let e : suc (d + b) ≡ suc d + b = omega arith in dropped d b xs ∙ ap (λ (j : ℕ). drop j (x ∷ xs)) e

    by : (b : Bool) → store_of ks (drop k.depth state) name ≡ take (depth_of ks name) (drop (base_of ks name) (drop k.depth state))
        → cond b (take k.depth state) (store_of ks (drop k.depth state) name)
        ≡ take (cond b k.depth (depth_of ks name)) (drop (cond b 0 (k.depth + base_of ks name)) state)
    by true ih = refl
    by false ih = ih ∙ ap (take (depth_of ks name)) (dropped k.depth (base_of ks name) state)

-- How often a name stands in a list: no name stands twice where each does once at most.
use Rattle.std.proofs.Common.{◌≡◌, ℕ, ◌+◌, ◌≤◌, List, [], ◌∷◌, ◌++◌, flat_map, Bool, true, false, if◌then◌else◌, refl, sym, ap, ◌∙◌, inl, inr, subst, arith}
use Rattle.std.specs.Str.{bytes_eq}
use Rattle.std.proofs.lemmas.List.{map-append}
use Rattle.fir_base.specs.Lists.{In, Distinct}
use Rattle.fir_base.proofs.SameNames.{name_is, name_same}
use Rattle.ver_ast.specs.declared.tree.Item.{Item}
use Rattle.ver_ast.specs.declared.tree.Item.TheVariants as item
use Rattle.ver_ast.specs.declared.tree.Verilog.{Verilog}
use Rattle.fir_base.specs.Words.{is_among}
use Rattle.ver_ast.specs.Nets.{names_of, variable_names, clocks, output_clocks, nets, arrays, item_assign, item_clock_assign, assigns, clock_assigns, targets}
use Rattle.ver_valid.specs.declared.declared.Declared.{Declared}
use Rattle.ver_valid.specs.declared.declared.Declared.TheVariants.{ClockInput, ClockOutput, Input, Output, Wire, Register, Array}
use Rattle.ver_valid.specs.working.Declarations.{Entry, entries, entry_names}
use Rattle.ver_valid.specs.working.Kinds.{net_width, is_clock_input, is_clock_output, sized, chosen, array_entry}
use Rattle.ver_valid.specs.working.Walks.{item_target, assigned_names}
use Rattle.ver_valid.proofs.Entries.{nets_are, clocks_are, output_clocks_are, arrays_are}

abbrev pub here : Bool → ℕ
here true = 1
here false = 0

abbrev pub times : List ℕ → List (List ℕ) → ℕ
times n [] = 0
times n (x ∷ xs) = here (bytes_eq x n) + times n xs

pub times_joined : (n : List ℕ) (xs ys : List (List ℕ)) → times n (xs ++ ys) ≡ times n xs + times n ys
times_joined n [] ys = omega arith
times_joined n (x ∷ xs) ys = omega (arith, times_joined n xs ys)

in_times : (n : List ℕ) (xs : List (List ℕ)) → In xs n → 1 ≤ times n xs
in_times n [] m = absurd m
in_times n (x ∷ xs) (inl e) =
    let same : bytes_eq x n ≡ true = ap (bytes_eq x) (sym e) ∙ name_same x in
    let one : here (bytes_eq x n) ≡ 1 = ap here same in
    omega arith
in_times n (x ∷ xs) (inr m) = omega (arith, in_times n xs m)

none_times : (n : List ℕ) (xs : List (List ℕ)) → (In xs n → ⊥) → times n xs ≡ 0
none_times n [] h = refl
none_times n (x ∷ xs) h =
    let other : here (bytes_eq x n) ≡ 0 = by (bytes_eq x n) refl in
    omega (arith, none_times n xs (λ m. h (inr m)))
  where
    by : (b : Bool) → bytes_eq x n ≡ b → here b ≡ 0
    by true e = absurd (h (inl (name_is x n e)))
    by false e = refl

at_most_one : (b : Bool) → here b ≤ 1
at_most_one true = omega arith
at_most_one false = omega arith

pub once_at_most : (xs : List (List ℕ)) → Distinct xs → (n : List ℕ) → times n xs ≤ 1
once_at_most [] d n = omega arith
once_at_most (x ∷ xs) d n = by (bytes_eq x n) refl (once_at_most xs d.1 n)
  where
    by : (b : Bool) → bytes_eq x n ≡ b → times n xs ≤ 1 → here b + times n xs ≤ 1
    by true e rest =
        let none : times n xs ≡ 0 = none_times n xs (λ m. d.0 (subst (In xs) (sym (name_is x n e)) m)) in
        omega arith
    by false e rest = omega arith

pub distinct_by_times : (xs : List (List ℕ)) → ((n : List ℕ) → times n xs ≤ 1) → Distinct xs
distinct_by_times [] h = tt
distinct_by_times (x ∷ xs) h = (
  λ m.
      let one : here (bytes_eq x x) ≡ 1 = ap here (name_same x) in
      let more = in_times x xs m in
      let most = h x in
      omega arith,
  distinct_by_times xs (λ n. omega (arith, h n)),
)

-- the names of a list of entries, kind by kind
abbrev by_kind : List Entry → List (List ℕ)
by_kind es =
    (flat_map (chosen is_clock_input) es ++ names_of (flat_map (sized net_width) es))
    ++ (variable_names (flat_map array_entry es) ++ flat_map (chosen is_clock_output) es)

abbrev four : List ℕ → List Entry → ℕ
four n es =
    (times n (flat_map (chosen is_clock_input) es) + times n (names_of (flat_map (sized net_width) es)))
    + (times n (variable_names (flat_map array_entry es)) + times n (flat_map (chosen is_clock_output) es))

four_is : (n : List ℕ) (es : List Entry) → times n (by_kind es) ≡ four n es
four_is n es =
    let a = flat_map (chosen is_clock_input) es in
    let b = names_of (flat_map (sized net_width) es) in
    let c = variable_names (flat_map array_entry es) in
    let d = flat_map (chosen is_clock_output) es in
    omega (arith, times_joined n (a ++ b) (c ++ d), times_joined n a b, times_joined n c d)

one_more : (n m : List ℕ) (k : Declared) (es : List Entry) → four n es ≡ times n (entry_names es) → four n ((m, k) ∷ es) ≡ here (bytes_eq m n) + times n (entry_names es)
one_more n m ClockInput es h = omega arith
one_more n m ClockOutput es h = omega arith
one_more n m (Input w) es h = omega arith
one_more n m (Output w) es h = omega arith
one_more n m (Wire w) es h = omega arith
one_more n m (Register w) es h = omega arith
one_more n m (Array w last) es h = omega arith

four_times : (n : List ℕ) (es : List Entry) → four n es ≡ times n (entry_names es)
four_times n [] = refl
four_times n (e ∷ es) = one_more n e.0 e.1 es (four_times n es)

abbrev pub all_names : Verilog → List (List ℕ)
all_names v = (clocks v ++ names_of (nets v)) ++ (variable_names (arrays v) ++ output_clocks v)

names_by_kind : (v : Verilog) → all_names v ≡ by_kind (entries v)
names_by_kind v = rw (clocks_are v, nets_are v, arrays_are v, output_clocks_are v) refl

-- names are declared once, in the order of the text and kind by kind
pub entries_once : (v : Verilog) → Distinct (all_names v) → Distinct (entry_names (entries v))
entries_once v d =
    distinct_by_times (entry_names (entries v)) (λ n.
    let most = once_at_most (all_names v) d n in
    let same : times n (all_names v) ≡ times n (entry_names (entries v)) =
    ap (times n) (names_by_kind v) ∙ four_is n (entries v) ∙ four_times n (entries v) in
    omega arith)

pub kinds_once : (v : Verilog) → Distinct (entry_names (entries v)) → Distinct (all_names v)
kinds_once v d =
    distinct_by_times (all_names v) (λ n.
    let most = once_at_most (entry_names (entries v)) d n in
    let same : times n (all_names v) ≡ times n (entry_names (entries v)) =
    ap (times n) (names_by_kind v) ∙ four_is n (entries v) ∙ four_times n (entries v) in
    omega arith)

-- the targets of assigns, in the order of the text, and those of clock outputs apart
assigned_times : (outs : List (List ℕ)) (n : List ℕ) (is : List Item)
    → times n (targets (flat_map (item_assign outs) is)) + times n (targets (flat_map (item_clock_assign outs) is)) ≡ times n (flat_map item_target is)
assigned_times outs n [] = refl
assigned_times outs n ((item.Assign a) ∷ is) = by (is_among outs a.target) (assigned_times outs n is)
  where
    both : Bool → ℕ
    both b =
        times n (targets ((if b then [] else (a ∷ [])) ++ flat_map (item_assign outs) is))
        + times n (targets ((if b then (a ∷ []) else []) ++ flat_map (item_clock_assign outs) is))

    by : (b : Bool) → times n (targets (flat_map (item_assign outs) is)) + times n (targets (flat_map (item_clock_assign outs) is)) ≡ times n (flat_map item_target is)
        → both b ≡ here (bytes_eq a.target n) + times n (flat_map item_target is)
    by true h = omega arith
    by false h = omega arith
assigned_times outs n (i ∷ is) = assigned_times outs n is

same_targets : (v : Verilog) (n : List ℕ) → times n (targets (assigns v ++ clock_assigns v)) ≡ times n (assigned_names v)
same_targets v n =
    ap (times n) (map-append (λ a. a.target) (assigns v) (clock_assigns v)) ∙ times_joined n (targets (assigns v)) (targets (clock_assigns v))
    ∙ assigned_times (output_clocks v) n v.items

pub assigned_once : (v : Verilog) → Distinct (targets (assigns v ++ clock_assigns v)) → Distinct (assigned_names v)
assigned_once v d =
    distinct_by_times (assigned_names v) (λ n. let most = once_at_most (targets (assigns v ++ clock_assigns v)) d n in let same = same_targets v n in omega arith)

pub targets_once : (v : Verilog) → Distinct (assigned_names v) → Distinct (targets (assigns v ++ clock_assigns v))
targets_once v d =
    distinct_by_times (targets (assigns v ++ clock_assigns v)) (λ n. let most = once_at_most (assigned_names v) d n in let same = same_targets v n in omega arith)

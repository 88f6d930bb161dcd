-- The first leaf among the fields of a bundle, field by field.
use Rattle.std.proofs.Common.{◌≡◌, ℕ, ◌+◌, ◌-◌, ◌^◌, ◌<◌, ◌≤◌, ◌⊎◌, inl, inr, List, Bool, true, false, ◌&&◌, min, map, get_or, length, Option, refl, sym, ap, ◌∙◌, arith}
use Rattle.std.specs.Option.{option_or}
use Rattle.std.proofs.lemmas.List.{get_or_past}
use Rattle.fir_ast.specs.Types.{DataType, Fields}
use Rattle.fir_meaning.specs.LeafPaths.{Step, LeafPath, element, named}
use Rattle.fir_meaning.specs.TypeLeaves.{turned}
use Rattle.fir_meaning.specs.SharedLeaves.{shared_count}
use Rattle.fir_meaning.specs.WidthExpressions.{Widths}
use Rattle.fir_type_table.specs.declared.entry.Member.{Member}
use Rattle.fir_type_table.specs.working.Saturated.{saturated}
use Rattle.fir_type_table.specs.working.Tables.{type_at, shown}
use Rattle.fir_type_table.proofs.WantedPaths.{behind}
use Rattle.fir_type_table.proofs.MemberLists.{members_from, members_next}
use Rattle.fir_meaning.specs.working.AssignedWidths.{assigned}
use Rattle.fir_infer_widths.specs.working.FirstLeaves.{first_where, leaf_is_over, lacks_width, is_unwritten_shown, passes}
use Rattle.fir_infer_widths.specs.declared.first_leaf.Test.{Test as TestOfCode}
use Rattle.fir_infer_widths.specs.declared.first_leaf.Test.TheVariants as test
use Rattle.fir_infer_widths.specs.working.NumberedLeaves.{NumberedLeaf, numbered_under, numbered_leaves, numbered_field_leaves}
use Rattle.fir_infer_widths.specs.working.SpotFaults.{is_over}
use Rattle.fir_infer_widths.proofs.FirstLeaves.{Test, elements_of, where_joined, where_in_first, alike_field_numbers}

abbrev pub member_leaves : List DataType → ℕ → Member → List NumberedLeaf
member_leaves ts n m = map (numbered_under m.flip (named m.name)) (numbered_leaves n (type_at ts m.ty.number))

pub next_where : (test : Test) (ts : List DataType) (ms : List Member) (i n : ℕ) (m : Member) (w : Option LeafPath)
    → w ≡ first_where test (numbered_field_leaves n (members_from ts ms i)) → i < length ms → m ≡ get_or ms i m
    → w ≡ option_or (first_where test (member_leaves ts n m)) (first_where test (numbered_field_leaves (n + shared_count (type_at ts m.ty.number)) (members_from ts ms (i + 1))))
next_where test ts ms i n m w so_far within at =
    so_far ∙ ap (λ fs. first_where test (numbered_field_leaves n fs)) (members_next ts ms i m within at)
    ∙ where_joined test (member_leaves ts n m) (numbered_field_leaves (n + shared_count (type_at ts m.ty.number)) (members_from ts ms (i + 1)))

-- numbers past all widths have the same
abbrev BothPast : List ℕ → ℕ → ℕ → Type 0
BothPast ws n m = (n ≡ m) ⊎ (length ws ≤ n) × (length ws ≤ m)

past_more : (ws : List ℕ) (n m k : ℕ) → BothPast ws n m → BothPast ws (n + k) (m + k)
past_more ws n m k (inl e) = inl (ap (λ i. i + k) e)
past_more ws n m k (inr h) = inr (omega arith, omega arith)

past_over : (ws : List ℕ) (n m : ℕ) → BothPast ws n m → is_over (assigned ws n) ≡ is_over (assigned ws m)
past_over ws n m (inl e) = ap (λ i. is_over (assigned ws i)) e
past_over ws n m (inr h) = ap is_over (get_or_past ws n 0 h.0 ∙ sym (get_or_past ws m 0 h.1))

past_saturated : (ws : List ℕ) (n k count next : ℕ) → length ws < 2 ^ 64 → count ≡ saturated k → next ≡ min (n + count) (2 ^ 64 - 1) → BothPast ws (n + k) next
past_saturated ws n k count next long e f = by (grind arith) where
  by : (n + k ≡ next) ⊎ (2 ^ 64 - 1 ≤ n + k) × (2 ^ 64 - 1 ≤ next) → BothPast ws (n + k) next
  by (inl g) = inl g
  by (inr h) = inr (omega arith, omega arith)

-- so a number may stand still at the greatest
pub next_saturated : (ws : List ℕ) (n k count next : ℕ) → length ws < 2 ^ 64 → count ≡ saturated k → next ≡ min (n + count) (2 ^ 64 - 1) → (fs : Fields)
    → first_where (leaf_is_over (assigned ws)) (numbered_field_leaves (n + k) fs) ≡ first_where (leaf_is_over (assigned ws)) (numbered_field_leaves next fs)
next_saturated ws n k count next long e f fs =
    alike_field_numbers (BothPast ws) (past_more ws) (leaf_is_over (assigned ws)) (λ path flip i j t h. past_over ws i j h) (n + k) next
    (past_saturated ws n k count next long e f) fs

-- and a test that looks at no number passes the same with all
abbrev Any : ℕ → ℕ → Type 0
Any n m = Unit {0}

pub unnumbered : (test : Test) → ((l : NumberedLeaf) (n : ℕ) → test l ≡ test (record l { number = n })) → (n m : ℕ) (fs : Fields)
    → first_where test (numbered_field_leaves n fs) ≡ first_where test (numbered_field_leaves m fs)
unnumbered test same n m fs = alike_field_numbers Any (λ i j k h. tt) test (λ path flip i j t h. same _ j) n m tt fs

-- below a flipped field straight leaves are inputs where flipped ones are
turned_twice : (inward flip last : Bool) → turned inward (turned flip last) ≡ turned (turned inward flip) last
turned_twice false flip last = refl
turned_twice true false last = refl
turned_twice true true false = refl
turned_twice true true true = refl

pub unwritten_below : (is_bare inward flip : Bool) (s : Step) (l : NumberedLeaf)
    → is_unwritten_shown is_bare inward (numbered_under flip s l) ≡ is_unwritten_shown is_bare (turned inward flip) l
unwritten_below is_bare inward flip s l = ap (λ b. b && lacks_width (shown is_bare l.ground_type)) (turned_twice inward flip l.flip)

-- a number may stand still in either test, and the first element stands for all
pub next_passes : (ws : List ℕ) (t : TestOfCode) (n k count next : ℕ) → length ws < 2 ^ 64 → count ≡ saturated k → next ≡ min (n + count) (2 ^ 64 - 1) → (fs : Fields)
    → first_where (passes (assigned ws) t) (numbered_field_leaves (n + k) fs) ≡ first_where (passes (assigned ws) t) (numbered_field_leaves next fs)
next_passes ws test.Over n k count next long e f fs = next_saturated ws n k count next long e f fs
next_passes ws (test.Unwritten is_bare inward) n k count next long e f fs = unnumbered (is_unwritten_shown is_bare inward) (λ l i. refl) (n + k) next fs

pub passes_in_element : (u : Widths) (t : TestOfCode) (n : ℕ) (ls : List NumberedLeaf) → (n ≡ 0 → ⊥)
    → first_where (passes u t) (elements_of n ls) ≡ behind (element 0) (first_where (passes u t) ls)
passes_in_element u test.Over n ls some = where_in_first (leaf_is_over u) n ls some
passes_in_element u (test.Unwritten is_bare inward) n ls some = where_in_first (is_unwritten_shown is_bare inward) n ls some

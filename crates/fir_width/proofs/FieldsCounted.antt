-- The members of a bundle are counted up to the one whose first leaf has the number.
use Rattle.std.proofs.Common.{◌≡◌, ℕ, ◌+◌, ◌-◌, ◌^◌, ◌<◌, ◌≤◌, List, [], ◌∷◌, ◌++◌, drop, get_or, length, take, refl, sym, ap, ◌∙◌, subst, add-zero, arith}
use Rattle.std.proofs.lemmas.List.{drop_all, drop_more, take-append-drop, take_more}
use Rattle.fir_ast.specs.Types.{DataType}
use Rattle.fir_type_table.specs.declared.entry.Member.{Member}
use Rattle.fir_type_table.specs.declared.readers.FieldFound.{FieldFound}
use Rattle.fir_type_table.specs.working.Saturated.{saturated}
use Rattle.fir_type_table.specs.working.Tables.{type_at}
use Rattle.fir_width.specs.declared.counted.Counted.{Counted}
use Rattle.fir_width.specs.declared.counted.Counted.TheVariants.{Each, Shared}
use Rattle.fir_width.specs.working.CountedLeaves.{before_found, count_all, count_of}
use Rattle.fir_width.specs.working.FieldsAt.{HasFieldAt, IsFieldAt}
use Rattle.fir_width.proofs.FieldsFound.{before_is}
use Rattle.fir_width.proofs.MemberCounts.{count_append}

module _ (by : Counted) (ts : List DataType) (ms : List Member) (leaf : ℕ) where
  -- it is none of the first members, which have so many leaves
  pub record CountsTo (i offset shared : ℕ) : Type 0 where
    pub offset_is : offset ≡ saturated (count_all Each ts (take i ms))
    pub shared_is : shared ≡ saturated (count_all Shared ts (take i ms))
    pub before : List Member
    pub member : Member
    pub rest : List Member
    pub split : drop i ms ≡ before ++ member ∷ rest
    pub counted : count_all by ts (take i ms) + count_all by ts before ≡ leaf
    pub has_leaves : 0 < count_of by (type_at ts member.ty.number)

  pub counts_begin : HasFieldAt by ts ms leaf → CountsTo 0 0 0
  counts_begin at = record {
    offset_is = refl;
    shared_is = refl;
    before = at.before;
    member = at.member;
    rest = at.rest;
    split = at.split;
    counted = omega (arith, at.counted);
    has_leaves = at.has_leaves;
  }

  pub counts_end : (i offset shared : ℕ) → length ms ≤ i → CountsTo i offset shared → ⊥
  counts_end i offset shared past so_far = none so_far.before (sym (drop_all i ms past) ∙ so_far.split)
    where
      none : (before : List Member) → [] ≡ before ++ so_far.member ∷ so_far.rest → ⊥
      none [] e = absurd (cc)
      none (b ∷ before) e = absurd (cc)

  -- the member of the next number is the field, or is passed
  module _ (i : ℕ) (m : Member) (f : FieldFound) (small : leaf < 2 ^ 64 - 1) (within : i < length ms) (here : m ≡ get_or ms i m)
      (flip : f.flip ≡ m.flip) (data_type : type_at ts f.ty.number ≡ type_at ts m.ty.number) (so_far : CountsTo i f.offset f.shared_offset) where
    next_left : drop i ms ≡ m ∷ drop (i + 1) ms
    next_left = drop_more ms i m within ∙ ap (λ n. n ∷ drop (i + 1) ms) (sym here)

    abbrev pub own : Counted → ℕ
    own which = count_of which (type_at ts f.ty.number)

    next_count : (which : Counted) → count_all which ts (take (i + 1) ms) ≡ count_all which ts (take i ms) + own which
    next_count which =
        ap (count_all which ts) (take_more ms i m within ∙ ap (λ n. take i ms ++ n ∷ []) (sym here)) ∙ count_append ts which (take i ms) (m ∷ [])
        ∙ ap (λ n. count_all which ts (take i ms) + n) (add-zero (count_of which (type_at ts m.ty.number)) ∙ ap (count_of which) (sym data_type))

    before_here : before_found by f ≡ saturated (count_all by ts (take i ms))
    before_here = before_is ts by (take i ms) f so_far.offset_is so_far.shared_is

    pub counts_found : before_found by f ≡ leaf → 0 < saturated (own by) → IsFieldAt by ts ms leaf f
    counts_found at some = record {
      at = record {
        before = take i ms;
        member = m;
        rest = drop (i + 1) ms;
        split = sym (take-append-drop i ms) ∙ ap (λ l. take i ms ++ l) next_left;
        counted = omega (arith, before_here, at, small);
        has_leaves = subst (λ u. 0 < count_of by u) data_type (omega (arith, some));
      };
      flip = flip;
      data_type = data_type;
      offset = so_far.offset_is;
      shared_offset = so_far.shared_is;
    }

    -- the first of the members that are left is another
    left_behind : (before : List Member) (member : Member) (rest : List Member) → m ∷ drop (i + 1) ms ≡ before ++ member ∷ rest
        → count_all by ts (take i ms) + count_all by ts before ≡ leaf → 0 < count_of by (type_at ts member.ty.number)
        → (before_found by f ≡ leaf → 0 < saturated (own by) → ⊥)
        → (behind : List Member) × (drop (i + 1) ms ≡ behind ++ member ∷ rest) × (count_all by ts (take (i + 1) ms) + count_all by ts behind ≡ leaf)
    left_behind [] member rest split counted some other =
        let same : m ≡ member = cc in
        let has : 0 < own by = subst (λ u. 0 < count_of by u) (ap (λ (n : Member). type_at ts n.ty.number) (sym same) ∙ sym data_type) some in
        absurd (other (omega (arith, before_here, counted, small)) (omega (arith, has)))
    left_behind (b ∷ before) member rest split counted some other =
        let same : m ≡ b = cc in
        let left : drop (i + 1) ms ≡ before ++ member ∷ rest = cc in
        let first : own by ≡ count_of by (type_at ts b.ty.number) = ap (count_of by) (data_type ∙ ap (λ (n : Member). type_at ts n.ty.number) same) in
        (before, left, omega (arith, next_count by, counted, first))

    pub counts_more : (next shared_next : ℕ) → (before_found by f ≡ leaf → 0 < saturated (own by) → ⊥)
        → next ≡ saturated (f.offset + saturated (own Each)) → shared_next ≡ saturated (f.shared_offset + saturated (own Shared))
        → CountsTo (i + 1) next shared_next
    counts_more next shared_next other sum shared_sum =
        let left = left_behind so_far.before so_far.member so_far.rest (sym next_left ∙ so_far.split) so_far.counted so_far.has_leaves other in
        record {
          offset_is = omega (arith, so_far.offset_is, sum, next_count Each);
          shared_is = omega (arith, so_far.shared_is, shared_sum, next_count Shared);
          before = left.0;
          member = so_far.member;
          rest = so_far.rest;
          split = left.1;
          counted = left.2;
          has_leaves = so_far.has_leaves;
        }

-- Leaves that are pushed for the members of a bundle that have leaves; members without leaves are stepped over.
use Rattle.std.proofs.Common.{◌≡◌, ℕ, ◌+◌, ◌<◌, ◌≤◌, List, [], ◌∷◌, ◌++◌, length, Bool, refl, sym, ap, ◌∙◌, subst, append_assoc, add-zero, arith}
use Rattle.std.proofs.lemmas.List.{append-nil}
use Rattle.fir_ast.specs.Types.{DataType}
use Rattle.fir_meaning.specs.SharedLeaves.{shared_count}
use Rattle.fir_meaning.specs.WidthExpressions.{Width}
use Rattle.fir_type_table.specs.declared.entry.Member.{Member}
use Rattle.fir_type_table.specs.declared.readers.FieldFound.{FieldFound}
use Rattle.fir_type_table.specs.working.Tables.{member_fields, shown, shown_fields, type_at}
use Rattle.fir_types.proofs.BareTypes.{shown_shared_count}
use Rattle.fir_infer_widths.specs.declared.arena.Arena.{Arena}
use Rattle.fir_width.specs.declared.counted.Counted.TheVariants.{Shared}
use Rattle.fir_infer_widths.specs.declared.leaves.Unknowns.{Unknowns}
use Rattle.fir_width.specs.working.CountedLeaves.{count_all}
use Rattle.fir_width.specs.working.FieldsAt.{HasFieldAt, IsFieldAt}
use Rattle.fir_infer_widths.specs.working.PushedLeaves.{Pushes, field_widths, type_widths}
use Rattle.fir_width.proofs.MemberCounts.{count_append, first_with_leaves, stands_behind, within_all}
use Rattle.fir_infer_widths.proofs.PushedWalks.{PushesSoFar, pushes_begin, pushes_end, pushes_next, shown_next, shown_none, widths_long}

-- a list of no length
none_long : (ws : List Width) → length ws ≡ 0 → ws ≡ []
none_long [] e = refl
none_long (w ∷ ws) e = absurd (omega arith)

module _ (ts : List DataType) (is_bare : Bool) (u : Unknowns) (ms : List Member) (old : Arena) where
  abbrev widths : List Member → ℕ → List Width
  widths ns = field_widths u (shown_fields is_bare (member_fields ts ns))

  abbrev own : Member → ℕ → List Width
  own m = type_widths u (shown is_bare (type_at ts m.ty.number))

  -- the members before that leaf are pushed
  pub record PushesTo (leaf : ℕ) (now : Arena) : Type 0 where
    pub done : List Member
    pub left : List Member
    pub split : ms ≡ done ++ left
    pub counted : count_all Shared ts done ≡ leaf
    pub so_far : PushesSoFar (widths ms) (widths left) old now

  pub members_begin : PushesTo 0 old
  members_begin = record { done = []; left = ms; split = refl; counted = refl; so_far = pushes_begin (widths ms) old }

  next : (m : Member) (rest : List Member) (k : ℕ) → widths (m ∷ rest) k ≡ own m k ++ widths rest (k + length (own m k))
  next m rest k = shown_next u is_bare k m.place m.flip m.name m.type_place (type_at ts m.ty.number) (member_fields ts rest)

  -- a member without leaves has no widths
  none_own : (m : Member) (k : ℕ) → shared_count (type_at ts m.ty.number) ≡ 0 → own m k ≡ []
  none_own m k none =
      let t = type_at ts m.ty.number in
      none_long (own m k) (widths_long u (shown is_bare t) k ∙ shown_shared_count is_bare t ∙ none)

  stepped_over : (between rest : List Member) (k : ℕ) → count_all Shared ts between ≡ 0 → widths (between ++ rest) k ≡ widths rest k
  stepped_over [] rest k none = refl
  stepped_over (m ∷ between) rest k none =
      let first : shared_count (type_at ts m.ty.number) ≡ 0 = omega (arith, none) in
      let others : count_all Shared ts between ≡ 0 = omega (arith, none) in
      next m (between ++ rest) k ∙ ap (λ ws. ws ++ widths (between ++ rest) (k + length ws)) (none_own m k first)
      ∙ ap (widths (between ++ rest)) (add-zero k) ∙ stepped_over between rest k others

  left_of : (left rest : List Member) (now : Arena) → ((k : ℕ) → widths left k ≡ widths rest k) → PushesSoFar (widths ms) (widths left) old now
      → PushesSoFar (widths ms) (widths rest) old now
  left_of left rest now same so_far = record {
    each = λ meant rules keeps.
        let r = so_far.each meant rules keeps in
        (r.0, r.1, ap (λ ws. r.0 ++ ws) (sym (same (length meant + length r.0))) ∙ r.2);
  }

  -- the leaves of a field are among all
  pub leaves_within : (leaf : ℕ) (f : FieldFound) → IsFieldAt Shared ts ms leaf f → leaf + shared_count (type_at ts f.ty.number) ≤ count_all Shared ts ms
  leaves_within leaf f at =
      omega (arith, at.at.counted, within_all ts Shared ms at.at.before at.at.member at.at.rest at.at.split, ap shared_count at.data_type)

  -- the field whose first leaf is the next one
  pub members_next : (leaf behind : ℕ) (f : FieldFound) (now new : Arena) → IsFieldAt Shared ts ms leaf f
      → behind ≡ leaf + shared_count (type_at ts f.ty.number) → PushesTo leaf now
      → Pushes (type_widths u (shown is_bare (type_at ts f.ty.number))) now new → PushesTo behind new
  members_next leaf behind f now new at moved so_far one =
      let here = at.at in
      let m = here.member in
      let stands =
      stands_behind ts Shared so_far.done so_far.left here.before m here.rest (sym so_far.split ∙ here.split) (so_far.counted ∙ sym here.counted)
      here.has_leaves in
      let reached : PushesSoFar (widths ms) (widths (m ∷ here.rest)) old now =
      left_of so_far.left (m ∷ here.rest) now
      (λ k. ap (λ l. widths l k) stands.split ∙ stepped_over stands.between (m ∷ here.rest) k stands.none) so_far.so_far in
      record {
        done = here.before ++ m ∷ [];
        left = here.rest;
        split = here.split ∙ sym (append_assoc here.before (m ∷ []) here.rest);
        counted = omega (arith, moved, here.counted, count_append ts Shared here.before (m ∷ []), ap shared_count at.data_type);
        so_far =
            pushes_next (widths ms) (widths (m ∷ here.rest)) (own m) (widths here.rest) old now new reached
            (subst (λ t. Pushes (type_widths u (shown is_bare t)) now new) at.data_type one) (next m here.rest);
      }

  pub members_end : (leaf : ℕ) (now : Arena) → count_all Shared ts ms ≤ leaf → PushesTo leaf now → Pushes (widths ms) old now
  members_end leaf now all so_far =
      let none : count_all Shared ts so_far.left ≡ 0 =
      omega (arith, all, so_far.counted, ap (count_all Shared ts) so_far.split, count_append ts Shared so_far.done so_far.left) in
      pushes_end (widths ms) (widths so_far.left) old now so_far.so_far
      (λ k. ap (λ l. widths l k) (sym (append-nil so_far.left)) ∙ stepped_over so_far.left [] k none ∙ shown_none u is_bare k)

  -- there is such a field until all are pushed
  pub next_there : (leaf : ℕ) (now : Arena) → leaf < count_all Shared ts ms → PushesTo leaf now → HasFieldAt Shared ts ms leaf
  next_there leaf now more so_far =
      let some : 0 < count_all Shared ts so_far.left =
      omega (arith, more, so_far.counted, ap (count_all Shared ts) so_far.split, count_append ts Shared so_far.done so_far.left) in
      let r = first_with_leaves ts Shared so_far.left some in
      record {
        before = so_far.done ++ r.before;
        member = r.member;
        rest = r.rest;
        split = so_far.split ∙ ap (λ l. so_far.done ++ l) r.split ∙ sym (append_assoc so_far.done r.before (r.member ∷ r.rest));
        counted = omega (arith, count_append ts Shared so_far.done r.before, r.counted, so_far.counted);
        has_leaves = r.has_leaves;
      }

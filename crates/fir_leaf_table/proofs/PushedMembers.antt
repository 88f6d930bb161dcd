-- Leaves that are pushed for the members of a bundle that have leaves; members without leaves are stepped over.
use Rattle.std.proofs.Common.{◌≡◌, ℕ, ◌+◌, ◌<◌, ◌≤◌, List, [], ◌∷◌, ◌++◌, Bool, refl, sym, ap, ◌∙◌, subst, add-zero, add_assoc, append_assoc, arith}
use Rattle.std.proofs.lemmas.List.{append-nil}
use Rattle.fir_ast.specs.Circuits.{CircuitTree}
use Rattle.fir_ast.specs.Types.{DataType, bundle}
use Rattle.fir_meaning.specs.SharedLeaves.{shared_count}
use Rattle.fir_meaning.specs.TypeLeaves.{field_count, leaf_count, turned}
use Rattle.fir_type_table.specs.declared.entry.Member.{Member}
use Rattle.fir_type_table.specs.declared.readers.FieldFound.{FieldFound}
use Rattle.fir_type_table.specs.working.Tables.{member_fields, type_at}
use Rattle.fir_width.specs.declared.counted.Counted.TheVariants.{Each, Shared}
use Rattle.fir_width.specs.working.CountedLeaves.{count_all}
use Rattle.fir_width.specs.working.FieldsAt.{HasFieldAt, IsFieldAt}
use Rattle.fir_width.proofs.MemberCounts.{all_leaves, count_append, first_with_leaves, stands_behind, within_all}
use Rattle.fir_leaf_table.specs.declared.type_leaves.TypeLeaf.{TypeLeaf as LeafOfCode}
use Rattle.fir_leaf_table.specs.working.PushedTypeLeaves.{Pushes}
use Rattle.fir_leaf_table.proofs.FieldLeaves.{PushesSoFar, fields_begin, fields_end, fields_next}
use Rattle.fir_leaf_table.proofs.HeldLeaves.{pushes_none}

module _ (c : CircuitTree) (flip : Bool) (ts : List DataType) (ms : List Member) (first : ℕ) (old : List LeafOfCode) where
  abbrev SoFar : List Member → ℕ → List LeafOfCode → Type 0
  SoFar left number now = PushesSoFar c flip (member_fields ts ms) (member_fields ts left) first number old now

  -- how many leaves all members have
  abbrev all : ℕ
  all = field_count (member_fields ts ms)

  -- the members before that leaf are pushed
  pub record PushesTo (leaf : ℕ) (now : List LeafOfCode) : Type 0 where
    pub done : List Member
    pub left : List Member
    pub split : ms ≡ done ++ left
    pub counted : count_all Each ts done ≡ leaf
    pub so_far : SoFar left (first + count_all Shared ts done) now

  pub members_begin : PushesTo 0 old
  members_begin = record {
    done = [];
    left = ms;
    split = refl;
    counted = refl;
    so_far = subst (λ n. SoFar ms n old) (sym (add-zero first)) (fields_begin c flip (member_fields ts ms) first old);
  }

  -- members without leaves
  stepped_over : (between rest : List Member) (number : ℕ) (now : List LeafOfCode) → count_all Each ts between ≡ 0 → SoFar (between ++ rest) number now
      → SoFar rest (number + count_all Shared ts between) now
  stepped_over [] rest number now none so_far = subst (λ n. SoFar rest n now) (sym (add-zero number)) so_far
  stepped_over (m ∷ between) rest number now none so_far =
      let t = type_at ts m.ty.number in
      let own : leaf_count t ≡ 0 = omega (arith, none) in
      let others : count_all Each ts between ≡ 0 = omega (arith, none) in
      subst (λ n. SoFar rest n now) (add_assoc number (shared_count t) (count_all Shared ts between))
      (stepped_over between rest (number + shared_count t) now others
      (fields_next c flip (member_fields ts ms) m.place m.flip m.name m.type_place t (member_fields ts (between ++ rest)) first number
      (number + shared_count t) old now now refl so_far (pushes_none c (turned flip m.flip) t number now (omega (arith, own)))))

  -- the leaves of a field are among all
  pub leaves_within : (leaf : ℕ) (f : FieldFound) → IsFieldAt Each ts ms leaf f → leaf + leaf_count (type_at ts f.ty.number) ≤ all
  leaves_within leaf f at =
      omega (arith, at.at.counted, all_leaves ts ms, within_all ts Each ms at.at.before at.at.member at.at.rest at.at.split, ap leaf_count at.data_type)

  -- the field whose first leaf is the next one
  pub members_next : (leaf number next : ℕ) (f : FieldFound) (now new : List LeafOfCode) (at : IsFieldAt Each ts ms leaf f)
      → number ≡ first + count_all Shared ts at.at.before → next ≡ leaf + leaf_count (type_at ts f.ty.number) → PushesTo leaf now
      → Pushes c (turned flip f.flip) (type_at ts f.ty.number) number now new → PushesTo next new
  members_next leaf number next f now new at begins moved so_far one =
      let here = at.at in
      let m = here.member in
      let t = type_at ts m.ty.number in
      let behind =
      stands_behind ts Each so_far.done so_far.left here.before m here.rest (sym so_far.split ∙ here.split) (so_far.counted ∙ sym here.counted)
      here.has_leaves in
      let reached : SoFar (m ∷ here.rest) number now =
      subst (λ n. SoFar (m ∷ here.rest) n now)
      (omega (arith, begins, ap (count_all Shared ts) behind.joined, count_append ts Shared so_far.done behind.between))
      (stepped_over behind.between (m ∷ here.rest) (first + count_all Shared ts so_far.done) now behind.none
      (subst (λ l. SoFar l (first + count_all Shared ts so_far.done) now) behind.split so_far.so_far)) in
      let own : Pushes c (turned flip m.flip) t number now new =
      subst (λ b. Pushes c (turned flip b) t number now new) at.flip (subst (λ u. Pushes c (turned flip f.flip) u number now new) at.data_type one) in
      record {
        done = here.before ++ m ∷ [];
        left = here.rest;
        split = here.split ∙ sym (append_assoc here.before (m ∷ []) here.rest);
        counted = omega (arith, moved, here.counted, count_append ts Each here.before (m ∷ []), ap leaf_count at.data_type);
        so_far =
            fields_next c flip (member_fields ts ms) m.place m.flip m.name m.type_place t (member_fields ts here.rest) first number
            (first + count_all Shared ts (here.before ++ m ∷ [])) old now new (omega (arith, begins, count_append ts Shared here.before (m ∷ [])))
            reached own;
      }

  pub members_end : (leaf : ℕ) (now : List LeafOfCode) → all ≤ leaf → PushesTo leaf now → Pushes c flip (bundle (member_fields ts ms)) first old now
  members_end leaf now past so_far =
      let none : count_all Each ts so_far.left ≡ 0 =
      omega (arith, past, all_leaves ts ms, so_far.counted, ap (count_all Each ts) so_far.split, count_append ts Each so_far.done so_far.left) in
      fields_end c flip (member_fields ts ms) first (first + count_all Shared ts so_far.done + count_all Shared ts so_far.left) old now
      (stepped_over so_far.left [] (first + count_all Shared ts so_far.done) now none
      (subst (λ l. SoFar l (first + count_all Shared ts so_far.done) now) (sym (append-nil so_far.left)) so_far.so_far))

  -- there is such a field until all are pushed
  pub next_there : (leaf : ℕ) (now : List LeafOfCode) → leaf < all → PushesTo leaf now → HasFieldAt Each ts ms leaf
  next_there leaf now more so_far =
      let some : 0 < count_all Each ts so_far.left =
      omega (arith, more, all_leaves ts ms, so_far.counted, ap (count_all Each ts) so_far.split, count_append ts Each so_far.done so_far.left) in
      let r = first_with_leaves ts Each so_far.left some in
      record {
        before = so_far.done ++ r.before;
        member = r.member;
        rest = r.rest;
        split = so_far.split ∙ ap (λ l. so_far.done ++ l) r.split ∙ sym (append_assoc so_far.done r.before (r.member ∷ r.rest));
        counted = omega (arith, count_append ts Each so_far.done r.before, r.counted, so_far.counted);
        has_leaves = r.has_leaves;
      }

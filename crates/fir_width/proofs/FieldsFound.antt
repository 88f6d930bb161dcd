-- The field that is found is the one whose first leaf has the number.
use Rattle.std.proofs.Common.{◌≡◌, ℕ, ◌+◌, ◌-◌, ◌^◌, ◌<◌, List, [], ◌∷◌, ◌++◌, Bool, true, false, cond, Some, refl, sym, ap, ◌∙◌, subst, arith}
use Rattle.std.specs.Str.{bytes_eq}
use Rattle.fir_ast.specs.Types.{DataType, bundle}
use Rattle.fir_meaning.specs.working.FieldSizes.{leaves_before, leaves_before_field, shared_before, shared_before_field}
use Rattle.fir_meaning.specs.Reaching.{field_of_type}
use Rattle.fir_meaning.specs.SharedLeaves.{shared_count}
use Rattle.fir_meaning.specs.TypeKinds.{FieldFound, field_named}
use Rattle.fir_meaning.specs.TypeLeaves.{leaf_count}
use Rattle.fir_type_table.specs.declared.entry.Member.{Member}
use Rattle.fir_type_table.specs.declared.readers.FieldFound.{FieldFound as FoundByCode}
use Rattle.fir_type_table.specs.working.Found.{found_of}
use Rattle.fir_type_table.specs.working.Saturated.{saturated}
use Rattle.fir_type_table.specs.working.Tables.{member_fields, type_at}
use Rattle.fir_width.specs.declared.counted.Counted.{Counted}
use Rattle.fir_width.specs.declared.counted.Counted.TheVariants.{Each, Shared}
use Rattle.fir_width.specs.working.CountedLeaves.{before_found, count_all, count_of}
use Rattle.fir_width.specs.working.FieldsAt.{IsFieldAt}

module _ (ts : List DataType) where
  -- the first member of a name
  pub record IsFirstNamed (name : List ℕ) (ms : List Member) (f : FieldFound) : Type 0 where
    pub before : List Member
    pub member : Member
    pub rest : List Member
    pub split : ms ≡ before ++ member ∷ rest
    pub flip : member.flip ≡ f.flip
    pub data_type : type_at ts member.ty.number ≡ f.data_type
    pub leaves : leaves_before_field name (member_fields ts ms) ≡ count_all Each ts before
    pub shared : shared_before_field name (member_fields ts ms) ≡ count_all Shared ts before

  first_named : (name : List ℕ) (m : Member) (ms : List Member) (f : FieldFound) (t : Bool) → bytes_eq m.name name ≡ t
      → field_named name (member_fields ts (m ∷ ms)) ≡ Some f
      → (field_named name (member_fields ts ms) ≡ Some f → IsFirstNamed name ms f) → IsFirstNamed name (m ∷ ms) f
  first_named name m ms f true e h next =
      let own : FieldFound = record { flip = m.flip; data_type = type_at ts m.ty.number } in
      let is : Some own ≡ Some f = sym (ap (λ t. cond t (Some own) (field_named name (member_fields ts ms))) e) ∙ h in
      let same : own ≡ f = cc in
      record {
        before = [];
        member = m;
        rest = ms;
        split = refl;
        flip = ap (λ (g : FieldFound). g.flip) same;
        data_type = ap (λ (g : FieldFound). g.data_type) same;
        leaves = ap (λ t. cond t 0 (leaf_count (type_at ts m.ty.number) + leaves_before_field name (member_fields ts ms))) e;
        shared = ap (λ t. cond t 0 (shared_count (type_at ts m.ty.number) + shared_before_field name (member_fields ts ms))) e;
      }
  first_named name m ms f false e h next =
      let own : FieldFound = record { flip = m.flip; data_type = type_at ts m.ty.number } in
      let r = next (sym (ap (λ t. cond t (Some own) (field_named name (member_fields ts ms))) e) ∙ h) in
      record {
        before = m ∷ r.before;
        member = r.member;
        rest = r.rest;
        split = ap (λ l. m ∷ l) r.split;
        flip = r.flip;
        data_type = r.data_type;
        leaves = ap (λ t. cond t 0 (leaf_count (type_at ts m.ty.number) + leaves_before_field name (member_fields ts ms))) e
            ∙ ap (λ n. leaf_count (type_at ts m.ty.number) + n) r.leaves;
        shared = ap (λ t. cond t 0 (shared_count (type_at ts m.ty.number) + shared_before_field name (member_fields ts ms))) e
            ∙ ap (λ n. shared_count (type_at ts m.ty.number) + n) r.shared;
      }

  pub first_of_name : (name : List ℕ) (ms : List Member) (f : FieldFound) → field_named name (member_fields ts ms) ≡ Some f → IsFirstNamed name ms f
  first_of_name name [] f h = absurd (cc)
  first_of_name name (m ∷ ms) f h = first_named name m ms f (bytes_eq m.name name) refl h (first_of_name name ms f)

  -- the leaves before a field, whichever count
  pub before_is : (by : Counted) (before : List Member) (f : FoundByCode) → f.offset ≡ saturated (count_all Each ts before)
      → f.shared_offset ≡ saturated (count_all Shared ts before) → before_found by f ≡ saturated (count_all by ts before)
  before_is Each before f offset shared = offset
  before_is Shared before f offset shared = shared

  pub sought : (by : Counted) (ms : List Member) (t : DataType) (name : List ℕ) (leaf before count : ℕ) (f : FoundByCode)
      → t ≡ bundle (member_fields ts ms) → Some (found_of ts f) ≡ field_of_type name t → f.offset ≡ saturated (leaves_before name t)
      → f.shared_offset ≡ saturated (shared_before name t) → before ≡ before_found by f → before ≡ leaf → leaf < 2 ^ 64 - 1
      → count ≡ saturated (count_of by (type_at ts f.ty.number)) → (count ≡ 0 → ⊥) → IsFieldAt by ts ms leaf f
  sought by ms t name leaf before count f is found offset shared stands at small counted some =
      let first = first_of_name name ms (found_of ts f) (sym (found ∙ ap (field_of_type name) is)) in
      let offset_is = offset ∙ ap (λ u. saturated (leaves_before name u)) is ∙ ap saturated first.leaves in
      let shared_is = shared ∙ ap (λ u. saturated (shared_before name u)) is ∙ ap saturated first.shared in
      let has : 0 < count_of by (type_at ts f.ty.number) = omega (arith, counted, some) in
      record {
        at = record {
          before = first.before;
          member = first.member;
          rest = first.rest;
          split = first.split;
          counted = omega (arith, before_is by first.before f offset_is shared_is, stands, at, small);
          has_leaves = subst (λ u. 0 < count_of by u) (sym first.data_type) has;
        };
        flip = sym first.flip;
        data_type = sym first.data_type;
        offset = offset_is;
        shared_offset = shared_is;
      }

-- The field that is found by its name is the one in which the leaf lies.
use Rattle.std.proofs.Common.{◌≡◌, ℕ, ◌+◌, ◌-◌, ◌^◌, ◌<◌, ◌≤◌, List, [], ◌∷◌, ◌++◌, Bool, true, false, cond, Some, refl, sym, ap, ◌∙◌, subst, arith}
use Rattle.std.specs.Str.{bytes_eq}
use Rattle.fir_base.proofs.SameNames.{name_is}
use Rattle.fir_ast.specs.Types.{DataType, bundle}
use Rattle.fir_meaning.specs.working.FieldSizes.{leaves_before, leaves_before_field}
use Rattle.fir_meaning.specs.Reaching.{field_of_type}
use Rattle.fir_meaning.specs.TypeKinds.{FieldFound, field_named}
use Rattle.fir_meaning.specs.TypeLeaves.{field_count, leaf_count}
use Rattle.fir_type_table.specs.declared.entry.Member.{Member}
use Rattle.fir_type_table.specs.declared.readers.FieldFound.{FieldFound as FoundByCode}
use Rattle.fir_type_table.specs.working.Found.{found_of}
use Rattle.fir_type_table.specs.working.Saturated.{saturated}
use Rattle.fir_type_table.specs.working.Tables.{member_fields, type_at}
use Rattle.fir_leaf_text.specs.working.FieldsOfLeaves.{LiesIn}

module _ (ts : List DataType) (name : List ℕ) where
  -- the first member of the name
  record IsFirstNamed (ms : List Member) (f : FieldFound) : Type 0 where
    before : List Member
    member : Member
    rest : List Member
    split : ms ≡ before ++ member ∷ rest
    is_named : member.name ≡ name
    is_typed : type_at ts member.ty.number ≡ f.data_type
    counted : leaves_before_field name (member_fields ts ms) ≡ field_count (member_fields ts before)

  first_named : (m : Member) (ms : List Member) (f : FieldFound) (t : Bool) → bytes_eq m.name name ≡ t
      → field_named name (member_fields ts (m ∷ ms)) ≡ Some f
      → (field_named name (member_fields ts ms) ≡ Some f → IsFirstNamed ms f) → IsFirstNamed (m ∷ ms) f
  first_named m ms f true e h next =
      let own : FieldFound = record { flip = m.flip; data_type = type_at ts m.ty.number } in
      let is : Some own ≡ Some f = sym (ap (λ t. cond t (Some own) (field_named name (member_fields ts ms))) e) ∙ h in
      let same : own ≡ f = cc in
      record {
        before = [];
        member = m;
        rest = ms;
        split = refl;
        is_named = name_is m.name name e;
        is_typed = ap (λ (g : FieldFound). g.data_type) same;
        counted = ap (λ t. cond t 0 (leaf_count (type_at ts m.ty.number) + leaves_before_field name (member_fields ts ms))) e;
      }
  first_named m ms f false e h next =
      let own : FieldFound = record { flip = m.flip; data_type = type_at ts m.ty.number } in
      let r = next (sym (ap (λ t. cond t (Some own) (field_named name (member_fields ts ms))) e) ∙ h) in
      record {
        before = m ∷ r.before;
        member = r.member;
        rest = r.rest;
        split = ap (λ l. m ∷ l) r.split;
        is_named = r.is_named;
        is_typed = r.is_typed;
        counted = ap (λ t. cond t 0 (leaf_count (type_at ts m.ty.number) + leaves_before_field name (member_fields ts ms))) e
            ∙ ap (λ n. leaf_count (type_at ts m.ty.number) + n) r.counted;
      }

  first_of_name : (ms : List Member) (f : FieldFound) → field_named name (member_fields ts ms) ≡ Some f → IsFirstNamed ms f
  first_of_name [] f h = absurd (cc)
  first_of_name (m ∷ ms) f h = first_named m ms f (bytes_eq m.name name) refl h (first_of_name ms f)

  pub lies_in_sought : (ms : List Member) (t : DataType) (f : FoundByCode) (leaf inside leaves : ℕ) → t ≡ bundle (member_fields ts ms)
      → Some (found_of ts f) ≡ field_of_type name t → f.offset ≡ saturated (leaves_before name t) → f.offset ≤ leaf → inside ≡ leaf - f.offset
      → leaf < 2 ^ 64 - 1 → leaves ≡ saturated (leaf_count (type_at ts f.ty.number)) → inside < leaves → LiesIn ts ms leaf name f.ty inside
  lies_in_sought ms t f leaf inside leaves is found offset low behind small counted less =
      let first = first_of_name ms (found_of ts f) (sym (found ∙ ap (field_of_type name) is)) in
      let offset_is = offset ∙ ap (λ u. saturated (leaves_before name u)) is ∙ ap saturated first.counted in
      let own : inside < leaf_count (type_at ts f.ty.number) = omega (arith, counted, less) in
      record {
        before = first.before;
        member = first.member;
        rest = first.rest;
        split = first.split;
        is_named = first.is_named;
        is_typed = first.is_typed;
        counted = omega (arith, offset_is, low, behind, small);
        within = subst (λ u. inside < leaf_count u) (sym first.is_typed) own;
      }

-- The member of a name: the first one of that name, with the leaves before it.
use Rattle.std.proofs.Common.{◌≡◌, ℕ, suc, ◌+◌, ◌<◌, ◌≤◌, List, [], ◌∷◌, Bool, true, false, cond, get_or, length, refl, sym, ap, ◌∙◌, subst, Bor, add-zero, zero-add, add_assoc, arith}
use Rattle.std.specs.Prelude.{Option, Some, None, option_map, slice_get}
use Rattle.std.specs.Slice.{IsItemAt}
use Rattle.std.specs.Str.{bytes_eq}
use Rattle.std.specs.BTreeMap.{get}
use Rattle.std.specs.Cmp.Lexicographic.{slice_cmp}
use Rattle.std.specs.Ordering.{nat_cmp}
use Rattle.std.proofs.lemmas.Option.{slice_get_within, get_or_from_slice_get}
use Rattle.fir_ast.specs.Types.{DataType, bundle}
use Rattle.fir_meaning.specs.TypeLeaves.{leaf_count}
use Rattle.fir_meaning.specs.TypeKinds.{FieldFound, field_named}
use Rattle.fir_meaning.specs.Reaching.{field_of_type}
use Rattle.fir_meaning.specs.SharedLeaves.{shared_count}
use Rattle.fir_type_table.specs.declared.kind.Kind.TheVariants as kind
use Rattle.fir_type_table.specs.declared.entry.Member.{Member}
use Rattle.fir_type_table.specs.declared.entry.Entry.{Entry}
use Rattle.fir_type_table.specs.working.Saturated.{saturated}
use Rattle.fir_meaning.specs.working.FieldSizes.{leaves_before, leaves_before_field, shared_before, shared_before_field}
use Rattle.fir_type_table.specs.working.Tables.{type_at, member_fields, made_of, types_of}
use Rattle.fir_type_table.specs.working.Fits.{HasOffsets, first_member}
use Rattle.fir_type_table.specs.working.Found.{IsFieldFound, IsMemberNamed, HasNoField}
use Rattle.fir_type_table.specs.working.Reads.{IsReadAt}

abbrev field_from : List DataType → Member → FieldFound
field_from ts m = record { flip = m.flip; data_type = type_at ts m.ty.number }

record IsFoundAt (ts : List DataType) (ms : List Member) (name : List ℕ) (k n before shared : ℕ) : Type 0 where
  member : Member
  number : ℕ
  at : n ≡ k + number
  here : slice_get ms number ≡ Some member
  is : field_named name (member_fields ts ms) ≡ Some (field_from ts member)
  offset : member.offset ≡ saturated (before + leaves_before_field name (member_fields ts ms))
  shared_offset : member.shared_offset ≡ saturated (shared + shared_before_field name (member_fields ts ms))

found_step : (ts : List DataType) (m : Member) (ms : List Member) (name : List ℕ) (k n before shared : ℕ) (t : Bool) → bytes_eq m.name name ≡ t
    → first_member name k (m ∷ ms) ≡ Some n → HasOffsets ts before shared (m ∷ ms)
    → (first_member name (suc k) ms ≡ Some n
    → IsFoundAt ts ms name (suc k) n (before + leaf_count (type_at ts m.ty.number)) (shared + shared_count (type_at ts m.ty.number)))
    → IsFoundAt ts (m ∷ ms) name k n before shared
found_step ts m ms name k n before shared true e h offsets rest =
    let first : Some k ≡ Some n = sym (ap (λ t. cond t (Some k) (first_member name (suc k) ms)) e) ∙ h in
    let same : k ≡ n = cc in
    let left : ℕ = leaf_count (type_at ts m.ty.number) + leaves_before_field name (member_fields ts ms) in
    let shared_left : ℕ = shared_count (type_at ts m.ty.number) + shared_before_field name (member_fields ts ms) in
    record {
      member = m;
      number = 0;
      at = omega arith;
      here = refl;
      is = ap (λ t. cond t (Some (field_from ts m)) (field_named name (member_fields ts ms))) e;
      offset = offsets.0 ∙ ap saturated (sym (add-zero before)) ∙ ap (λ t. saturated (before + cond t 0 left)) (sym e);
      shared_offset = offsets.1 ∙ ap saturated (sym (add-zero shared)) ∙ ap (λ t. saturated (shared + cond t 0 shared_left)) (sym e);
    }
found_step ts m ms name k n before shared false e h offsets rest =
    let r = rest (sym (ap (λ t. cond t (Some k) (first_member name (suc k) ms)) e) ∙ h) in
    let left : ℕ = leaves_before_field name (member_fields ts ms) in
    let shared_left : ℕ = shared_before_field name (member_fields ts ms) in
    let count : ℕ = leaf_count (type_at ts m.ty.number) in
    let shared_by : ℕ = shared_count (type_at ts m.ty.number) in
    record {
      member = r.member;
      number = suc r.number;
      at = omega (arith, r.at);
      here = r.here;
      is = ap (λ t. cond t (Some (field_from ts m)) (field_named name (member_fields ts ms))) e ∙ r.is;
      offset = r.offset ∙ ap saturated (add_assoc before count left) ∙ ap (λ t. saturated (before + cond t 0 (count + left))) (sym e);
      shared_offset = r.shared_offset ∙ ap saturated (add_assoc shared shared_by shared_left)
          ∙ ap (λ t. saturated (shared + cond t 0 (shared_by + shared_left))) (sym e);
    }

found_at : (ts : List DataType) (ms : List Member) (name : List ℕ) (k n before shared : ℕ) → first_member name k ms ≡ Some n
    → HasOffsets ts before shared ms → IsFoundAt ts ms name k n before shared
found_at ts [] name k n before shared h offsets = absurd (cc)
found_at ts (m ∷ ms) name k n before shared h offsets =
    found_step ts m ms name k n before shared (bytes_eq m.name name) refl h offsets
    (λ g. found_at ts ms name (suc k) n (before + leaf_count (type_at ts m.ty.number)) (shared + shared_count (type_at ts m.ty.number)) g offsets.2)

absent_step : (t : Bool) (k : ℕ) (o : Option ℕ) (f : FieldFound) (g : Option FieldFound) → (o ≡ None → g ≡ None) → cond t (Some k) o ≡ None
    → cond t (Some f) g ≡ None
absent_step true k o f g rest h = absurd (cc)
absent_step false k o f g rest h = rest h

absent : (ts : List DataType) (ms : List Member) (name : List ℕ) (k : ℕ) → first_member name k ms ≡ None → field_named name (member_fields ts ms) ≡ None
absent ts [] name k h = refl
absent ts (m ∷ ms) name k h =
    absent_step (bytes_eq m.name name) k (first_member name (suc k) ms) (field_from ts m) (field_named name (member_fields ts ms))
    (absent ts ms name (suc k)) h

bundle_is : (es : List Entry) (i : ℕ) (e : Entry) → IsReadAt es i e → e.kind ≡ kind.Bundle → type_at (types_of es) i ≡ bundle (member_fields (types_of es) e.members.items)
bundle_is es i e read is = read.type_is ∙ ap (λ k. made_of (types_of es) k e.members.items) is

pub no_member : (es : List Entry) (i : ℕ) (e : Entry) (name : List ℕ) → IsReadAt es i e → e.kind ≡ kind.Bundle
    → None ≡ get (slice_cmp nat_cmp) e.by_name name → HasNoField (types_of es) i name
no_member es i e name read is none = record {
  none = ap (field_of_type name) (bundle_is es i e read is)
      ∙ absent (types_of es) e.members.items name 0 (sym (read.fits.by_name name) ∙ sym none);
}

member_here : (es : List Entry) (i : ℕ) (e : Entry) (name : List ℕ) (n : ℕ) (m : Member) → IsReadAt es i e → e.kind ≡ kind.Bundle
    → IsFoundAt (types_of es) e.members.items name 0 n 0 0 → n < length e.members.items → m ≡ get_or e.members.items n m
    → IsMemberNamed (types_of es) i name m
member_here es i e name n m read is found within at =
    let ts : List DataType = types_of es in
    let ms : List Member = e.members.items in
    let type_is = bundle_is es i e read is in
    let number : n ≡ found.number = omega (arith, found.at) in
    let same : found.member ≡ m =
    sym (at ∙ ap (λ j. get_or ms j m) number ∙ get_or_from_slice_get ms found.number found.member m found.here) in
    record {
      found = ap (field_of_type name) type_is ∙ found.is ∙ ap (λ x. Some (field_from ts x)) same;
      offset = ap (λ (x : Member). x.offset) (sym same) ∙ found.offset ∙ ap saturated (zero-add (leaves_before_field name (member_fields ts ms)))
          ∙ ap (λ t. saturated (leaves_before name t)) (sym type_is);
      shared_offset = ap (λ (x : Member). x.shared_offset) (sym same) ∙ found.shared_offset
          ∙ ap saturated (zero-add (shared_before_field name (member_fields ts ms))) ∙ ap (λ t. saturated (shared_before name t)) (sym type_is);
      below = subst (λ (x : Member). x.ty.number < i) (sym at) (read.fits.members_below n m within);
    }

pub member_by_get : (es : List Entry) (i : ℕ) (e : Entry) (name : List ℕ) (n : ℕ) (items : List Member) (r : Option (Bor Member)) → IsReadAt es i e
    → e.kind ≡ kind.Bundle → Some n ≡ get (slice_cmp nat_cmp) e.by_name name → items ≡ e.members.items → IsItemAt items n r
    → IsFieldFound es i name (option_map (λ m. m.now) r)
member_by_get es i e name n items None read is named same h =
    let found = found_at (types_of es) e.members.items name 0 n 0 0 (sym (read.fits.by_name name) ∙ sym named) read.fits.offsets in
    let past : length e.members.items ≤ n = subst (λ (xs : List Member). length xs ≤ n) same h.3 in
    absurd (omega (arith, found.at, slice_get_within e.members.items found.number found.member found.here))
member_by_get es i e name n items (Some m) read is named same h =
    let found = found_at (types_of es) e.members.items name 0 n 0 0 (sym (read.fits.by_name name) ∙ sym named) read.fits.offsets in
    member_here es i e name n m.now read is found (subst (λ (xs : List Member). n < length xs) same h.3.0)
    (subst (λ (xs : List Member). m.now ≡ get_or xs n m.now) same h.1)

-- Members that are made of the parts of a bundle, with the leaves before each.
use Rattle.std.proofs.Common.{◌≡◌, ℕ, zero, suc, ◌+◌, ◌<◌, List, [], ◌∷◌, ◌++◌, map, sym, ap, ◌∙◌, arith}
use Rattle.std.specs.List.{All}
use Rattle.std.proofs.lemmas.List.{map-append}
use Rattle.fir_ast.specs.Types.{DataType}
use Rattle.fir_meaning.specs.TypeLeaves.{leaf_count, field_count}
use Rattle.fir_meaning.specs.SharedLeaves.{shared_count, shared_field_count}
use Rattle.fir_type_table.specs.declared.entry.Part.{Part}
use Rattle.fir_type_table.specs.declared.entry.Member.{Member}
use Rattle.fir_type_table.specs.working.Saturated.{saturated}
use Rattle.fir_type_table.specs.working.Tables.{type_at, member_of, member_fields, part_of}
use Rattle.fir_type_table.specs.working.Fits.{HasOffsets}
use Rattle.fir_type_table.specs.working.Made.{MakesMembers}
use Rattle.fir_type_table.proofs.TableTypes.{all_first, all_rest}

pub count_more : (ts : List DataType) (ms : List Member) (m : Member)
    → field_count (member_fields ts (ms ++ m ∷ [])) ≡ field_count (member_fields ts ms) + leaf_count (type_at ts m.ty.number)
count_more ts [] m = omega arith
count_more ts (x ∷ ms) m = omega (arith, count_more ts ms m)

pub shared_more : (ts : List DataType) (ms : List Member) (m : Member)
    → shared_field_count (member_fields ts (ms ++ m ∷ [])) ≡ shared_field_count (member_fields ts ms) + shared_count (type_at ts m.ty.number)
shared_more ts [] m = omega arith
shared_more ts (x ∷ ms) m = omega (arith, shared_more ts ms m)

offsets_more : (ts : List DataType) (before shared : ℕ) (ms : List Member) (m : Member) → HasOffsets ts before shared ms
    → m.offset ≡ saturated (before + field_count (member_fields ts ms)) → m.shared_offset ≡ saturated (shared + shared_field_count (member_fields ts ms))
    → HasOffsets ts before shared (ms ++ m ∷ [])
offsets_more ts before shared [] m h offset shared_offset =
    let e : before + 0 ≡ before = omega arith in
    let s : shared + 0 ≡ shared = omega arith in
    (offset ∙ ap saturated e, shared_offset ∙ ap saturated s, tt)
offsets_more ts before shared (x ∷ ms) m h offset shared_offset =
    let count : ℕ = leaf_count (type_at ts x.ty.number) in
    let shared_by : ℕ = shared_count (type_at ts x.ty.number) in
    let left : ℕ = field_count (member_fields ts ms) in
    let shared_left : ℕ = shared_field_count (member_fields ts ms) in
    let e : before + (count + left) ≡ before + count + left = omega arith in
    let s : shared + (shared_by + shared_left) ≡ shared + shared_by + shared_left = omega arith in
    (h.0, h.1, offsets_more ts (before + count) (shared + shared_by) ms m h.2 (offset ∙ ap saturated e) (shared_offset ∙ ap saturated s))

pub record PlacesSoFar (ts : List DataType) (parts : List Part) (ms : List Member) (offset shared : ℕ) : Type 0 where
  pub made : MakesMembers ts parts ms
  pub offset_is : offset ≡ saturated (field_count (member_fields ts ms))
  pub shared_is : shared ≡ saturated (shared_field_count (member_fields ts ms))

pub places_more : (ts : List DataType) (parts : List Part) (ms : List Member) (offset shared : ℕ) (p : Part) (m : Member) (leaves shared_leaves next shared_next : ℕ)
    → PlacesSoFar ts parts ms offset shared → member_of ts m ≡ part_of ts p → m.ty.number ≡ p.ty.number → m.offset ≡ offset → m.shared_offset ≡ shared
    → leaves ≡ saturated (leaf_count (type_at ts m.ty.number)) → shared_leaves ≡ saturated (shared_count (type_at ts m.ty.number))
    → next ≡ saturated (offset + leaves) → shared_next ≡ saturated (shared + shared_leaves)
    → PlacesSoFar ts (parts ++ p ∷ []) (ms ++ m ∷ []) next shared_next
places_more ts parts ms offset shared p m leaves shared_leaves next shared_next so_far same number at shared_at count shared_by sum shared_sum = record {
  made = record {
    fields = map-append (member_of ts) ms (m ∷ []) ∙ ap (λ l. l ++ member_of ts m ∷ []) so_far.made.fields
        ∙ ap (λ f. map (part_of ts) parts ++ f ∷ []) same ∙ sym (map-append (part_of ts) parts (p ∷ []));
    numbers = map-append (λ (x : Member). x.ty.number) ms (m ∷ []) ∙ ap (λ l. l ++ m.ty.number ∷ []) so_far.made.numbers
        ∙ ap (λ n. map (λ (x : Part). x.ty.number) parts ++ n ∷ []) number ∙ sym (map-append (λ (x : Part). x.ty.number) parts (p ∷ []));
    offsets = offsets_more ts 0 0 ms m so_far.made.offsets (at ∙ so_far.offset_is ∙ ap saturated (let e : field_count (member_fields ts ms) ≡ 0 + field_count (member_fields ts ms) = omega arith in e)) (shared_at ∙ so_far.shared_is ∙ ap saturated (let e : shared_field_count (member_fields ts ms) ≡ 0 + shared_field_count (member_fields ts ms) = omega arith in e));
  };
  offset_is = omega (arith, so_far.offset_is, count, sum, count_more ts ms m);
  shared_is = omega (arith, so_far.shared_is, shared_by, shared_sum, shared_more ts ms m);
}

pub below_same : (i : ℕ) (ms : List Member) (parts : List Part) → map (λ m. m.ty.number) ms ≡ map (λ p. p.ty.number) parts
    → All (λ p. p.ty.number < i) parts → All (λ m. m.ty.number < i) ms
below_same i [] parts e h = λ k d lt. absurd (omega arith)
below_same i (m ∷ ms) [] e h = absurd (cc)
below_same i (m ∷ ms) (p ∷ parts) e h = λ k d lt.
    below_step i m ms (let same : m.ty.number ≡ p.ty.number = cc in let first : p.ty.number < i = all_first (λ (x : Part). x.ty.number < i) p parts h in omega arith)
    (below_same i ms parts (let rest : map (λ (x : Member). x.ty.number) ms ≡ map (λ (x : Part). x.ty.number) parts = cc in rest) (all_rest (λ (x : Part). x.ty.number < i) p parts h))
    k d lt where
      below_step : (j : ℕ) (x : Member) (xs : List Member) → x.ty.number < j → All (λ y. y.ty.number < j) xs → All (λ y. y.ty.number < j) (x ∷ xs)
      below_step j x xs first rest zero y lt = first
      below_step j x xs first rest (suc n) y lt = rest n y (omega arith)

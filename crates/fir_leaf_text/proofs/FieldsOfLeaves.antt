-- The fields of a bundle are counted up to the one in which a leaf lies, and its path goes on there.
use Rattle.std.proofs.Common.{◌≡◌, ℕ, ◌+◌, ◌-◌, ◌<◌, ◌≤◌, ◌^◌, List, [], ◌∷◌, ◌++◌, Option, None, drop, get_or, length, map, take, refl, sym, ap, ◌∙◌, arith}
use Rattle.std.specs.Prelude.{option_map, slice_get}
use Rattle.std.proofs.lemmas.List.{drop_more, length-map, take-append-drop, take_more}
use Rattle.std.proofs.lemmas.Option.{slice_get-map, slice_get_past}
use Rattle.fir_base.proofs.Elements.{get_left}
use Rattle.fir_ast.specs.Types.{DataType, bundle}
use Rattle.fir_meaning.specs.LeafPaths.{LeafPath, named}
use Rattle.fir_meaning.specs.TypeLeaves.{field_count, field_leaves, leaf_count, type_leaves}
use Rattle.fir_meaning.proofs.LeafSteps.{behind_step, path_of, paths_joined}
use Rattle.fir_type_table.specs.declared.entry.Member.{Member}
use Rattle.fir_type_table.specs.declared.kind.TypeId.{TypeId}
use Rattle.fir_type_table.specs.working.Saturated.{saturated}
use Rattle.fir_type_table.specs.working.Tables.{member_fields, type_at}
use Rattle.fir_leaf.proofs.LeafPlaces.{get_right, leaves_counted}
use Rattle.fir_leaf_text.specs.working.FieldsOfLeaves.{LiesIn}
use Rattle.fir_leaf_text.specs.working.TypePaths.{paths_of_members, type_paths}

pub paths_counted : (t : DataType) → length (type_paths t) ≡ leaf_count t
paths_counted t = length-map (type_leaves t) path_of ∙ leaves_counted t

module _ (ts : List DataType) where
  abbrev pub leaves_of_members : List Member → ℕ
  leaves_of_members ms = field_count (member_fields ts ms)

  abbrev pub leaves_of_member : Member → ℕ
  leaves_of_member m = leaf_count (type_at ts m.ty.number)

  pub members_joined : (ms ns : List Member) → leaves_of_members (ms ++ ns) ≡ leaves_of_members ms + leaves_of_members ns
  members_joined [] ns = omega arith
  members_joined (m ∷ ms) ns = omega (arith, members_joined ms ns)

  -- the leaf has the number behind the first members
  module _ (ms : List Member) (leaf i number : ℕ) (m : Member) (within : i < length ms) (at : m ≡ get_or ms i m)
      (so_far : leaves_of_members (take i ms) + number ≡ leaf) where
    pub lies_in_counted : number < saturated (leaves_of_member m) → LiesIn ts ms leaf m.name m.ty number
    lies_in_counted less = record {
      before = take i ms;
      member = m;
      rest = drop (i + 1) ms;
      split = sym (take-append-drop i ms) ∙ ap (λ l. take i ms ++ l) (drop_more ms i m within ∙ ap (λ n. n ∷ drop (i + 1) ms) (sym at));
      is_named = refl;
      is_typed = refl;
      counted = so_far;
      within = omega arith;
    }

    pub member_passed : (leaves : ℕ) → leaves ≡ saturated (leaves_of_member m) → leaf < 2 ^ 64 - 1 → leaves ≤ number
        → leaves_of_members (take (i + 1) ms) + (number - leaves) ≡ leaf
    member_passed leaves counted small more =
        let next : leaves_of_members (take (i + 1) ms) ≡ leaves_of_members (take i ms) + leaves_of_member m =
        ap leaves_of_members (take_more ms i m within ∙ ap (λ n. take i ms ++ n ∷ []) (sym at)) ∙ members_joined (take i ms) (m ∷ [])
        ∙ omega arith in
        omega (arith, next)

  -- its path begins with the name of the field
  abbrev pub path_in_field : List ℕ → TypeId → ℕ → Option LeafPath
  path_in_field name id inside = option_map (λ path. named name ∷ path) (slice_get (type_paths (type_at ts id.number)) inside)

  path_there : (before : List Member) (m : Member) (rest : List Member) (inside : ℕ) → inside < leaves_of_member m
      → slice_get (paths_of_members ts (before ++ m ∷ rest)) (leaves_of_members before + inside) ≡ path_in_field m.name m.ty inside
  path_there [] m rest inside less =
      let t = type_at ts m.ty.number in
      let own = map (behind_step (named m.name)) (type_paths t) in
      let long : length own ≡ leaf_count t = length-map (type_paths t) (behind_step (named m.name)) ∙ paths_counted t in
      let first : 0 + inside ≡ inside = omega arith in
      ap (λ paths. slice_get paths (0 + inside)) (paths_joined m.flip (named m.name) (type_leaves t) (field_leaves (member_fields ts rest)))
      ∙ ap (slice_get (own ++ paths_of_members ts rest)) first ∙ get_left own (paths_of_members ts rest) inside (omega (arith, long))
      ∙ slice_get-map (behind_step (named m.name)) (type_paths t) inside
  path_there (b ∷ before) m rest inside less =
      let t = type_at ts b.ty.number in
      let own = map (behind_step (named b.name)) (type_paths t) in
      let long : length own ≡ leaf_count t = length-map (type_paths t) (behind_step (named b.name)) ∙ paths_counted t in
      let others = leaves_of_members before in
      let behind : (leaf_count t + others) + inside ≡ leaf_count t + (others + inside) = omega arith in
      let more = before ++ m ∷ rest in
      ap (λ paths. slice_get paths ((leaf_count t + others) + inside))
      (paths_joined b.flip (named b.name) (type_leaves t) (field_leaves (member_fields ts more)))
      ∙ ap (slice_get (own ++ paths_of_members ts more)) behind ∙ get_right own (paths_of_members ts more) (leaf_count t) (others + inside) long
      ∙ path_there before m rest inside less

  pub path_of_field : (ms : List Member) (leaf : ℕ) (name : List ℕ) (id : TypeId) (inside : ℕ) → LiesIn ts ms leaf name id inside
      → slice_get (paths_of_members ts ms) leaf ≡ path_in_field name id inside
  path_of_field ms leaf name id inside lies =
      ap (λ members. slice_get (paths_of_members ts members) leaf) lies.split
      ∙ ap (slice_get (paths_of_members ts (lies.before ++ lies.member ∷ lies.rest))) (sym lies.counted)
      ∙ path_there lies.before lies.member lies.rest inside lies.within
      ∙ ap (λ n. path_in_field n lies.member.ty inside) lies.is_named
      ∙ ap (λ t. option_map (λ path. named name ∷ path) (slice_get (type_paths t) inside)) lies.is_typed

  pub no_path : (ms : List Member) (leaf : ℕ) → leaves_of_members ms ≤ leaf → slice_get (paths_of_members ts ms) leaf ≡ None
  no_path ms leaf past = slice_get_past (paths_of_members ts ms) leaf (omega (arith, paths_counted (bundle (member_fields ts ms))))

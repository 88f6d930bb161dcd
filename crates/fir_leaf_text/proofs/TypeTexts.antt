-- The texts of the leaves of a type are those of its parts, each behind the step to the part.
use Rattle.std.proofs.Common.{◌≡◌, ℕ, suc, ◌+◌, ◌-◌, ◌<◌, ◌≤◌, List, [], ◌∷◌, ◌++◌, Bool, false, length, map, take, refl, sym, ap, ◌∙◌, append_assoc, append-nil, arith}
use Rattle.std.specs.Prelude.{flat_map}
use Rattle.std.proofs.Math.Seq.{take-append_seam}
use Rattle.fir_ast.specs.Types.{DataType}
use Rattle.fir_meaning.specs.LeafPaths.{Step, element, named, step_text}
use Rattle.fir_meaning.specs.TypeLeaves.{TypeLeaf, element_leaves, field_leaves, leaf_count, type_leaves, under}
use Rattle.fir_type_table.specs.declared.entry.Member.{Member}
use Rattle.fir_type_table.specs.declared.kind.TypeId.{TypeId}
use Rattle.fir_type_table.specs.working.Saturated.{saturated}
use Rattle.fir_type_table.specs.working.Tables.{member_fields, type_at}
use Rattle.fir_leaf.proofs.LeafPlaces.{leaves_counted}
use Rattle.fir_leaf_text.specs.working.FieldsOfLeaves.{LiesIn}
use Rattle.fir_leaf_text.specs.working.TypePaths.{paths_of, paths_of_members, texts_behind, type_paths}
use Rattle.fir_leaf_text.proofs.FieldsOfLeaves.{leaves_of_member, leaves_of_members, members_joined}

-- a path that is cut back behind a step
pub cut_back : (old mid new : List ℕ) (s : Step) (before : ℕ) → mid ≡ old ++ step_text s → new ≡ mid → before ≡ length old → take before new ≡ old
cut_back old mid new s before is stays counted =
    ap (λ n. take n new) counted ∙ ap (take (length old)) (stays ∙ is) ∙ take-append_seam old (step_text s)

nothing_of : (ls : List TypeLeaf) → length ls ≡ 0 → ls ≡ []
nothing_of [] e = refl
nothing_of (l ∷ ls) e = absurd (omega arith)

-- what has no leaves has no texts
pub no_texts : (t : DataType) (path : List ℕ) (old : List (List ℕ)) (count : ℕ) → count ≡ saturated (leaf_count t) → count ≡ 0
    → old ≡ old ++ texts_behind path (type_paths t)
no_texts t path old count counted none =
    sym (append-nil old) ∙ ap (λ ls. old ++ texts_behind path (paths_of ls)) (sym (nothing_of (type_leaves t) (omega (arith, leaves_counted t))))

-- the texts of the leaves of a part, and of those that follow
pub texts_joined : (path : List ℕ) (f : Bool) (s : Step) (ls rest : List TypeLeaf)
    → texts_behind path (paths_of (map (under f s) ls ++ rest)) ≡ texts_behind (path ++ step_text s) (paths_of ls) ++ texts_behind path (paths_of rest)
texts_joined path f s [] rest = refl
texts_joined path f s (l ∷ ls) rest =
    ap (λ t. t ∷ texts_behind path (paths_of (map (under f s) ls ++ rest))) (sym (append_assoc path (step_text s) (flat_map step_text l.path)))
    ∙ ap (λ ts. ((path ++ step_text s) ++ flat_map step_text l.path) ∷ ts) (texts_joined path f s ls rest)

-- those of a part are put behind the others, and the rest is left
pub part_put : (path mid : List ℕ) (f : Bool) (s : Step) (ls rest : List TypeLeaf) (now new all : List (List ℕ)) → mid ≡ path ++ step_text s
    → now ++ texts_behind path (paths_of (map (under f s) ls ++ rest)) ≡ all → new ≡ now ++ texts_behind mid (paths_of ls)
    → new ++ texts_behind path (paths_of rest) ≡ all
part_put path mid f s ls rest now new all is left put =
    ap (λ ts. ts ++ texts_behind path (paths_of rest)) (put ∙ ap (λ p. now ++ texts_behind p (paths_of ls)) is)
    ∙ append_assoc now (texts_behind (path ++ step_text s) (paths_of ls)) (texts_behind path (paths_of rest))
    ∙ ap (λ ts. now ++ ts) (sym (texts_joined path f s ls rest)) ∙ left

-- the texts of fields
abbrev pub field_texts : List DataType → List ℕ → List Member → List (List ℕ)
field_texts ts path ms = texts_behind path (paths_of_members ts ms)

module _ (ts : List DataType) where
  -- members without leaves have none
  passed_over : (between rest : List Member) → leaves_of_members ts between ≡ 0
      → field_leaves (member_fields ts (between ++ rest)) ≡ field_leaves (member_fields ts rest)
  passed_over [] rest none = refl
  passed_over (m ∷ between) rest none =
      let t = type_at ts m.ty.number in
      ap (λ ls. map (under m.flip (named m.name)) ls ++ field_leaves (member_fields ts (between ++ rest)))
      (nothing_of (type_leaves t) (omega (arith, leaves_counted t, none)))
      ∙ passed_over between rest (omega (arith, none))

  -- a member stands behind others, and between them some without leaves
  record StandsBehind (done left before : List Member) (m : Member) (rest : List Member) (inside : ℕ) : Type 0 where
    between : List Member
    split : left ≡ between ++ m ∷ rest
    none : leaves_of_members ts between ≡ 0
    joined : before ≡ done ++ between
    first : inside ≡ 0

  -- so does the one in which the next leaf lies
  stands_behind : (done left before : List Member) (m : Member) (rest : List Member) (inside : ℕ) → done ++ left ≡ before ++ m ∷ rest
      → leaves_of_members ts before + inside ≡ leaves_of_members ts done → inside < leaves_of_member ts m → StandsBehind done left before m rest inside
  stands_behind [] left before m rest inside split counted less =
      record { between = before; split = split; none = omega (arith, counted); joined = refl; first = omega (arith, counted) }
  stands_behind (d ∷ done) left [] m rest inside split counted less =
      let same : d ≡ m = cc in
      absurd (omega (arith, counted, less, ap (leaves_of_member ts) same))
  stands_behind (d ∷ done) left (b ∷ before) m rest inside split counted less =
      let same : d ≡ b = cc in
      one_more same (stands_behind done left before m rest inside (cc) (omega (arith, counted, ap (leaves_of_member ts) same)) less)
    where
      one_more : d ≡ b → StandsBehind done left before m rest inside → StandsBehind (d ∷ done) left (b ∷ before) m rest inside
      one_more same r = record {
        between = r.between;
        split = r.split;
        none = r.none;
        joined = ap (λ x. x ∷ before) (sym same) ∙ ap (λ l. d ∷ l) r.joined;
        first = r.first;
      }

  module _ (ms : List Member) (path : List ℕ) (all : List (List ℕ)) where
    -- the texts of the members before that leaf are put
    pub record PutsTo (leaf : ℕ) (now : List (List ℕ)) : Type 0 where
      pub done : List Member
      pub left : List Member
      pub split : ms ≡ done ++ left
      pub counted : leaves_of_members ts done ≡ leaf
      pub texts : now ++ field_texts ts path left ≡ all

    pub field_put : (mid : List ℕ) (leaf next : ℕ) (name : List ℕ) (id : TypeId) (inside : ℕ) (now new : List (List ℕ))
        → LiesIn ts ms leaf name id inside → next ≡ leaf + leaf_count (type_at ts id.number) → mid ≡ path ++ step_text (named name) → PutsTo leaf now
        → new ≡ now ++ texts_behind mid (type_paths (type_at ts id.number)) → PutsTo next new
    field_put mid leaf next name id inside now new lies moved is so_far put =
        let m = lies.member in
        let behind =
        stands_behind so_far.done so_far.left lies.before m lies.rest inside (sym so_far.split ∙ lies.split) (lies.counted ∙ sym so_far.counted)
        lies.within in
        let here : now ++ field_texts ts path (m ∷ lies.rest) ≡ all =
        ap (λ ls. now ++ texts_behind path (paths_of ls)) (sym (passed_over behind.between (m ∷ lies.rest) behind.none))
        ∙ ap (λ members. now ++ field_texts ts path members) (sym behind.split) ∙ so_far.texts in
        record {
          done = lies.before ++ m ∷ [];
          left = lies.rest;
          split = lies.split ∙ sym (append_assoc lies.before (m ∷ []) lies.rest);
          counted =
              omega (arith, members_joined ts lies.before (m ∷ []), lies.counted, behind.first, moved, ap leaf_count lies.is_typed);
          texts =
              part_put path mid m.flip (named m.name) (type_leaves (type_at ts m.ty.number)) (field_leaves (member_fields ts lies.rest)) now new all
              (is ∙ ap (λ n. path ++ step_text (named n)) (sym lies.is_named)) here
              (put ∙ ap (λ t. now ++ texts_behind mid (type_paths t)) (sym lies.is_typed));
        }

    pub fields_put : (leaf : ℕ) (now : List (List ℕ)) → leaves_of_members ts ms ≤ leaf → PutsTo leaf now → now ≡ all
    fields_put leaf now past so_far =
        let none : leaves_of_members ts so_far.left ≡ 0 =
        omega (arith, past, so_far.counted, ap (leaves_of_members ts) so_far.split, members_joined ts so_far.done so_far.left) in
        sym (append-nil now)
        ∙ ap (λ ls. now ++ texts_behind path (paths_of ls))
        (sym (ap (λ members. field_leaves (member_fields ts members)) (sym (append-nil so_far.left)) ∙ passed_over so_far.left [] none))
        ∙ so_far.texts

-- the elements of a vector from a number on
abbrev pub elements_from : DataType → ℕ → List ℕ → ℕ → List (List ℕ)
elements_from t n path i = texts_behind path (paths_of (element_leaves i (n - i) (type_leaves t)))

pub element_put : (t : DataType) (n : ℕ) (path mid : List ℕ) (i : ℕ) (now new all : List (List ℕ)) → i < n → mid ≡ path ++ step_text (element i)
    → now ++ elements_from t n path i ≡ all → new ≡ now ++ texts_behind mid (type_paths t) → new ++ elements_from t n path (i + 1) ≡ all
element_put t n path mid i now new all within is left put =
    let next : suc (n - (i + 1)) ≡ n - i = omega arith in
    part_put path mid false (element i) (type_leaves t) (element_leaves (i + 1) (n - (i + 1)) (type_leaves t)) now new all is
    (ap (λ k. now ++ texts_behind path (paths_of (element_leaves i k (type_leaves t)))) next ∙ left) put

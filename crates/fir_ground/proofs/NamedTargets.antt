-- The target of a reference, by its note.
use Rattle.std.proofs.Common.{◌≡◌, ℕ, ◌+◌, ◌≤◌, List, [], ◌∷◌, map, get_or, Bool, true, false, if◌then◌else◌, Option, Some, None, refl, sym, ap, ◌∙◌, subst, arith}
use Rattle.std.specs.Prelude.{option_map, slice_get}
use Rattle.std.specs.Str.{bytes_eq}
use Rattle.fir_ast.specs.Types.{DataType}
use Rattle.fir_ast.specs.Statements.{SinkReference}
use Rattle.fir_meaning.specs.CostGroup.{cost_limit}
use Rattle.fir_meaning.specs.Costs.{leaves_where}
use Rattle.fir_meaning.specs.LeafPaths.{named}
use Rattle.fir_meaning.specs.Reaching.{Reached, known_reached}
use Rattle.fir_meaning.specs.ResetJoins.{type_of_known}
use Rattle.fir_meaning.specs.TypedScopes.{Known, TypedScope, known}
use Rattle.fir_meaning.specs.TypeLeaves.{leaf_count}
use Rattle.fir_meaning.specs.working.WellTyped.{Reaches as ReachesThere}
use Rattle.fir_meaning.proofs.FoundTypes.{found_sink}
use Rattle.fir_type_table.specs.working.Saturated.{saturated}
use Rattle.fir_types.specs.declared.note.LeafRange.{LeafRange as RangeOfCode}
use Rattle.fir_types.specs.declared.note.Note.{Note as NoteOfCode}
use Rattle.fir_types.specs.declared.note.Note.TheVariants as code
use Rattle.fir_types.specs.working.Noted.{note_seen, pick_seen, range_seen, saturated_note, saturated_pick, saturated_range}
use Rattle.fir_types.specs.working.Notes.{LeafRange, Note, known_range, of_reference, position_of, range_behind, range_where, reference_note, root_range, whole_range}
use Rattle.fir_types.specs.working.Seen.{found_type}
use Rattle.fir_leaf.specs.declared.node.Node.{Node}
use Rattle.fir_meaning.specs.working.Leafed.{target_along, target_of}
use Rattle.fir_meaning.specs.working.Targets.{leaves_ahead, leaves_so_far, named_target, whole_target}
use Rattle.fir_meaning.specs.working.Terms.{no_picks}
use Rattle.fir_ground.specs.declared.ground.Ground.{Ground}
use Rattle.fir_leaf_pairs.specs.declared.target.Target.{Target}
use Rattle.fir_ground.specs.declared.walk.Walk.{Walk}
use Rattle.fir_ground.specs.working.Grounds.{Ahead, Enters, Reaches, Stands, types_in}
use Rattle.fir_leaf_pairs.specs.working.TargetNames.{Names}
use Rattle.fir_ground.specs.working.Indices.{IsPicked, base_of, indices_in, picks_behind, there_behind}
use Rattle.fir_leaf_pairs.specs.working.Reads.{IsWithin, IsWithinCost}
use Rattle.fir_ground.proofs.TargetRanges.{Along, along, based}

-- the leaves of a name are among those that are declared
known_room : (typed : TypedScope) (name : List ℕ) (k : Known) (u : DataType) → known typed name ≡ Some k → k.data_type ≡ Some u → leaves_ahead typed name + leaf_count u ≤ leaves_so_far typed
known_room [] name k u is typed_as = absurd (cc)
known_room (j ∷ ks) name k u is typed_as = by (bytes_eq j.name name) is (λ h. known_room ks name k u h typed_as)
  where
    by : (b : Bool) → (if b then Some j else known ks name) ≡ Some k → (known ks name ≡ Some k → leaves_ahead ks name + leaf_count u ≤ leaves_so_far ks)
        → (if b then 0 else leaves_where j.data_type + leaves_ahead ks name) + leaf_count u ≤ leaves_where j.data_type + leaves_so_far ks
    by true is later =
        let same : j ≡ k = cc in
        let count : leaves_where j.data_type ≡ leaf_count u = ap (λ (x : Known). leaves_where x.data_type) same ∙ ap leaves_where typed_as in
        omega arith
    by false is later = omega (arith, later is)

-- what is reached by a name has its type
record IsKnown (o : Option Known) (u : DataType) : Type 0 where
  component : Known
  is : o ≡ Some component
  data_type : component.data_type ≡ Some u

is_known : (o : Option Known) (b : Reached) → known_reached o ≡ Some b → IsKnown o b.data_type
is_known None b is = absurd (cc)
is_known (Some k) b is = by k.data_type refl is
  where
    by : (t : Option DataType) → k.data_type ≡ t → option_map (λ u. record { data_type = u; flow = k.flow; path = Some (named k.name ∷ []) }) t ≡ Some b → IsKnown (Some k) b.data_type
    by None e h = absurd (cc)
    by (Some u) e h =
        let reached : Reached = record { data_type = u; flow = k.flow; path = Some (named k.name ∷ []) } in
        let same : reached ≡ b = cc in
        record { component = k; is = refl; data_type = e ∙ ap (λ (z : Reached). Some z.data_type) same }

-- what a reference reaches, as a target and as a range
pub record Ranged (typed : TypedScope) (s : SinkReference) (r : Reached) : Type 0 where
  pub first : ℕ
  pub total : ℕ
  pub component : Known
  pub is : known typed s.name ≡ Some component
  pub begins : first ≡ leaves_ahead typed s.name
  pub room : first + total ≤ leaves_so_far typed
  pub range : LeafRange
  pub note : reference_note typed s ≡ of_reference (Some range)
  pub along : Along first total true no_picks (position_of typed s.name) [] (indices_in typed s.parts) (target_of typed s) range r.data_type

pub ranged : (typed : TypedScope) (s : SinkReference) (r : Reached) → leaves_so_far typed ≤ cost_limit → ReachesThere typed s r → Ranged typed s r
ranged typed s r small reaches =
    let start = reaches.0 in
    let of = is_known (known typed s.name) start reaches.1 in
    let u = start.data_type in
    let first = leaves_ahead typed s.name in
    let total = leaf_count u in
    let position = position_of typed s.name in
    let whole = whole_range position u in
    let room = known_room typed s.name of.component u of.is of.data_type in
    let within : total ≤ cost_limit = omega arith in
    let from : first ≡ first + 0 = omega arith in
    let root : root_range typed s.name ≡ Some whole = ap (known_range position) of.is ∙ ap (option_map (whole_range position)) of.data_type in
    let target : named_target typed s.name ≡ whole_target first (Some u) = ap (λ o. whole_target first (type_of_known o)) of.is ∙ ap (whole_target first) of.data_type in
    let own =
    along first total within typed true no_picks (whole_target first (Some u)) whole start r s.parts
    (record { base = ap Some from; picks = refl; data_type = refl; same_type = refl; room = λ is. omega arith }) reaches.2 in
    record {
      first = first;
      total = total;
      component = of.component;
      is = of.is;
      begins = refl;
      room = room;
      range = range_behind whole s.parts;
      note =
          ap (λ x. of_reference (range_where x (option_map (λ y. range_behind y s.parts) (root_range typed s.name)))) (ap (λ x. x.has) (found_sink typed s r reaches))
          ∙ ap (λ x. of_reference (option_map (λ y. range_behind y s.parts) x)) root;
      along =
          subst (λ t. Along first total true no_picks position [] (indices_in typed s.parts) (target_along typed t s.parts) (range_behind whole s.parts) r.data_type) (sym target) own;
    }

-- no more leaves up to its last than a circuit may cost
pub within_cost : (typed : TypedScope) (s : SinkReference) (r : Reached) → leaves_so_far typed ≤ cost_limit → ReachesThere typed s r → IsWithinCost (target_of typed s)
within_cost typed s r small reaches =
    let known = ranged typed s r small reaches in
    let way = known.along in
    let there = there_behind true (indices_in typed s.parts) (map saturated_pick way.picked) in
    let n = known.first + known.range.offset in
    let fits : (b : Bool) → (b ≡ true → known.range.offset + leaf_count r.data_type ≤ known.total) → IsWithin (based b n) (leaf_count r.data_type) = λ b room.
    elim b as (λ b. (b ≡ true → known.range.offset + leaf_count r.data_type ≤ known.total) → IsWithin (based b n) (leaf_count r.data_type)) [
      | true ↦ λ room. omega (arith, room refl, known.room, small)
      | false ↦ λ room. tt
    ] room in
    subst (λ o. IsWithin o (leaf_count (target_of typed s).data_type)) (sym way.base) (subst (λ t. IsWithin (based there n) (leaf_count t)) (sym way.data_type) (fits there way.room))

-- the code's range is that range, with numbers that stand still
record RangeRead (ts : List DataType) (own : RangeOfCode) (range : LeafRange) : Type 0 where
  declaration : own.declaration ≡ range.declaration
  data_type : found_type ts own.found ≡ range.data_type
  offset : own.offset ≡ saturated range.offset
  picks : map pick_seen own.picks.items ≡ map saturated_pick range.picks

range_read : (ts : List DataType) (own : RangeOfCode) (n : Note) (range : LeafRange) → n ≡ of_reference (Some range) → note_seen ts (code.Reference (Some own)) ≡ saturated_note n
    → RangeRead ts own range
range_read ts own n range is seen =
    let both : of_reference (Some (range_seen ts own)) ≡ of_reference (Some (saturated_range range)) = seen ∙ ap saturated_note is in
    let same : range_seen ts own ≡ saturated_range range = cc in
    record {
      declaration = ap (λ (x : LeafRange). x.declaration) same;
      data_type = ap (λ (x : LeafRange). x.data_type) same;
      offset = ap (λ (x : LeafRange). x.offset) same;
      picks = ap (λ (x : LeafRange). x.picks) same;
    }

base_exact : (b : Bool) (o : Option ℕ) (first offset own n total : ℕ) → o ≡ Some first → own ≡ saturated offset → (b ≡ true → offset + n ≤ total) → first + total ≤ cost_limit
    → (if b then option_map (λ f. saturated (f + own)) o else None) ≡ based b (first + offset)
base_exact true o first offset own n total is saturates room small =
    let le : offset + n ≤ total = room refl in
    let exact : saturated (first + own) ≡ first + offset = omega arith in
    ap (option_map (λ f. saturated (f + own))) is ∙ ap Some exact
base_exact false o first offset own n total is saturates room small = refl

named_names : (g : Ground) (typed : TypedScope) (s : SinkReference) (r : Reached) → Stands g typed → ReachesThere typed s r → (own : RangeOfCode)
    → note_seen (types_in g) (code.Reference (Some own)) ≡ saturated_note (reference_note typed s) → (old new : List Node) (t : Target)
    → IsPicked g.firsts.now own (indices_in typed s.parts) old new t → Names (types_in g) new t (target_of typed s)
named_names g typed s r stands reaches own seen old new t picked =
    let known = ranged typed s r stands.small reaches in
    let way = known.along in
    let read = range_read (types_in g) own (reference_note typed s) known.range known.note seen in
    let is = indices_in typed s.parts in
    let picks : map pick_seen own.picks.items ≡ map saturated_pick way.picked = read.picks ∙ ap (map saturated_pick) way.grown in
    let there = there_behind true is (map saturated_pick way.picked) in
    let first : slice_get g.firsts.now own.declaration ≡ Some known.first =
    ap (slice_get g.firsts.now) (read.declaration ∙ way.declared) ∙ stands.firsts s.name known.component known.is ∙ ap Some (sym known.begins) in
    let fits : known.first + known.total ≤ cost_limit = omega (arith, known.room, stands.small) in
    record {
      base =
          picked.base ∙ ap (λ ps. base_of g.firsts.now own (there_behind true is ps)) picks
          ∙ base_exact there (slice_get g.firsts.now own.declaration) known.first known.range.offset own.offset (leaf_count r.data_type) known.total first read.offset way.room fits ∙ sym way.base;
      within = picked.within;
      picks = picked.picks ∙ ap (picks_behind true no_picks is) picks ∙ sym way.picks;
      data_type = ap (found_type (types_in g)) picked.found ∙ read.data_type ∙ way.range_type ∙ sym way.data_type;
    }

-- and None is not the note of a reference that reaches something
no_nothing : (ts : List DataType) (typed : TypedScope) (s : SinkReference) (r : Reached) → leaves_so_far typed ≤ cost_limit → ReachesThere typed s r
    → note_seen ts (code.Reference None) ≡ saturated_note (reference_note typed s) → ⊥
no_nothing ts typed s r small reaches seen =
    let known = ranged typed s r small reaches in
    let both : of_reference None ≡ of_reference (Some (saturated_range known.range)) = seen ∙ ap saturated_note known.note in
    cc

-- the first of the notes that are ahead is read
first_seen : (ts : List DataType) (notes : List NoteOfCode) (n : Note) (rest : List Note) → Ahead ts notes (n ∷ rest) → (x : NoteOfCode) → x ≡ get_or notes 0 x
    → note_seen ts x ≡ saturated_note n
first_seen ts [] n rest h x is = cc
first_seen ts (y ∷ ys) n rest h x is = ap (note_seen ts) is ∙ (cc)

-- in front of the note of a reference
pub reaches_ahead : (g : Ground) (typed : TypedScope) (s : SinkReference) (r : Reached) (rest : List Note) (old new : Walk) (x : NoteOfCode) (o : Option RangeOfCode) (t : Target)
    → Enters g typed (reference_note typed s ∷ rest) old → ReachesThere typed s r → x ≡ get_or old.notes.now 0 x → x ≡ code.Reference o
    → Ahead (types_in g) new.notes.now rest → new.drivers ≡ old.drivers
    → ((own : RangeOfCode) → o ≡ Some own → IsPicked g.firsts.now own (indices_in typed s.parts) old.nodes.items new.nodes.items t) → Reaches g rest old new t (target_of typed s)
reaches_ahead g typed s r rest old new x o t enters reaches item is passed still told =
    by o (ap (note_seen (types_in g)) (sym is) ∙ first_seen (types_in g) old.notes.now (reference_note typed s) rest enters.ahead x item) told
  where
    by : (o : Option RangeOfCode) → note_seen (types_in g) (code.Reference o) ≡ saturated_note (reference_note typed s)
        → ((own : RangeOfCode) → o ≡ Some own → IsPicked g.firsts.now own (indices_in typed s.parts) old.nodes.items new.nodes.items t) → Reaches g rest old new t (target_of typed s)
    by None seen told = absurd (no_nothing (types_in g) typed s r enters.stands.small reaches seen)
    by (Some own) seen told =
        let picked = told own refl in
        record {
          comes = record {
            grows = picked.grows;
            ahead = passed;
            drivers = still;
          };
          names = named_names g typed s r enters.stands reaches own seen old.nodes.items new.nodes.items t picked;
        }

-- The dynamic indices of a reference, and what they pick.
use Rattle.std.specs.Prelude.{◌≡◌, ℕ, ◌+◌, nat_lt, List, [], ◌∷◌, ◌++◌, map, length, Bool, true, if◌then◌else◌, ◌&&◌, Option, None, option_map, slice_get}
use Rattle.fir_ast.specs.declared.place.Place.{Place}
use Rattle.fir_ast.specs.Expressions.{Parts, no_parts, subfield, subindex, subaccess}
use Rattle.fir_meaning.specs.ExpressionPlaces.{place_of}
use Rattle.fir_meaning.specs.TypedScopes.{TypedScope}
use Rattle.fir_type_table.specs.working.Saturated.{saturated}
use Rattle.fir_types.specs.declared.note.LeafRange.{LeafRange as RangeOfCode}
use Rattle.fir_types.specs.working.Notes.{Note, Pick, part_notes}
use Rattle.fir_types.specs.working.Noted.{pick_seen}
use Rattle.fir_leaf.specs.declared.node.Node.{Node}
use Rattle.fir_meaning.specs.working.Leafed.{first_term, terms}
use Rattle.fir_leaf.specs.working.Nodes.{AllBelow, Grows, entries, node_term, picks_at}
use Rattle.fir_meaning.specs.working.Terms.{Picks, Term, no_picks, pick}
use Rattle.fir_ground.specs.declared.ground.Ground.{Ground}
use Rattle.fir_ground.specs.declared.references.Chain.{Chain}
use Rattle.fir_ground.specs.declared.references.Index.{Index as IndexOfCode}
use Rattle.fir_leaf_pairs.specs.declared.target.Target.{Target}
use Rattle.fir_ground.specs.declared.walk.Walk.{Walk}
use Rattle.fir_ground.specs.working.Grounds.{Comes}
use Rattle.fir_leaf_pairs.specs.working.TargetNames.{PicksWithin}

-- where its expression stands, and the term of it
pub record Index : Type 0 where
  pub place : Place
  pub term : Term

abbrev pub indices_in : TypedScope → Parts → List Index
indices_in scope no_parts = []
indices_in scope (subfield first p x rest) = indices_in scope rest
indices_in scope (subindex first p i rest) = indices_in scope rest
indices_in scope (subaccess first e rest) = record { place = place_of e; term = first_term (terms scope e) } ∷ indices_in scope rest

abbrev pub index_seen : List Node → IndexOfCode → Index
index_seen nodes i = record { place = i.place; term = node_term nodes i.node }

-- the code's indices are these
pub record AreIndices (nodes : List Node) (own : List IndexOfCode) (meant : List Index) : Type 0 where
  pub within : AllBelow (length nodes) (map (λ i. i.node) own)
  pub are : map (index_seen nodes) own ≡ meant

-- how many leaves apart elements are; where there are none, that tells nothing
abbrev pub stride_where : Bool → ℕ → ℕ
stride_where there each = if there then each else 0

-- behind indices, an index more, which picks one of these elements
abbrev pub pick_behind : Bool → Picks → Index → Pick → Picks
pick_behind there ps i p = pick ps i.place i.term p.length (stride_where (there && nat_lt 0 p.length) p.stride)

-- and more of them
abbrev pub picks_behind : Bool → Picks → List Index → List Pick → Picks
picks_behind there ps (i ∷ is) (p ∷ more) = picks_behind (there && nat_lt 0 p.length) (pick_behind there ps i p) is more
picks_behind there ps _ _ = ps

-- whether all vectors have elements
abbrev pub there_behind : Bool → List Index → List Pick → Bool
there_behind there (i ∷ is) (p ∷ more) = there_behind (there && nat_lt 0 p.length) is more
there_behind there _ _ = there

-- the nodes have grown, and the last is these indices
pub record IsChained (old new : List Node) (chain : Chain) (there : Bool) (ps : Picks) : Type 0 where
  pub grows : Grows old new
  pub is_there : chain.is_there ≡ there
  pub within : PicksWithin (length new) chain.picks
  pub picks : picks_at (entries new) chain.picks ≡ ps

-- the number of the first leaf of a range
abbrev pub base_of : List ℕ → RangeOfCode → Bool → Option ℕ
base_of firsts range there = if there then option_map (λ first. saturated (first + range.offset)) (slice_get firsts range.declaration) else None

-- the code's target is this range behind these indices
pub record IsPicked (firsts : List ℕ) (range : RangeOfCode) (indices : List Index) (old new : List Node) (t : Target) : Type 0 where
  pub grows : Grows old new
  pub base : t.base ≡ base_of firsts range (there_behind true indices (map pick_seen range.picks.items))
  pub within : PicksWithin (length new) t.picks
  pub picks : picks_at (entries new) t.picks ≡ picks_behind true no_picks indices (map pick_seen range.picks.items)
  pub found : t.found ≡ range.found

-- behind a part of a reference, in front of these parts; the indices before it were these
pub record ComesPast (ground : Ground) (typed : TypedScope) (part : Parts → Parts) (parts : Parts) (rest : List Note) (old new : Walk) (done : List Index) (indices : List IndexOfCode) : Type 0 where
  pub own : List Index
  pub same : indices_in typed (part parts) ≡ own ++ indices_in typed parts
  pub comes : Comes ground (part_notes typed parts ++ rest) old new
  pub are : AreIndices new.nodes.items indices (done ++ own)

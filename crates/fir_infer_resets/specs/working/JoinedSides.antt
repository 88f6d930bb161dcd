-- What has been joined of a connect, and of a node.
use Rattle.std.specs.Prelude.{◌≡◌, ℕ, List, [], map, Bool, false, Option, Some, None}
use Rattle.fir_ast.specs.Types.{DataType}
use Rattle.fir_ast.specs.Statements.{PlacedName, SinkReference}
use Rattle.fir_ast.specs.working.Views.{sink_of}
use Rattle.fir_ast.specs.Circuits.{CircuitTree}
use Rattle.fir_types.specs.declared.found.Found.{Found}
use Rattle.fir_types.specs.declared.note.Pick.{Pick}
use Rattle.fir_types.specs.declared.note.LeafRange.{LeafRange}
use Rattle.fir_types.specs.working.Seen.{found_type}
use Rattle.fir_infer_resets.specs.declared.joined.Joined.{Joined}
use Rattle.fir_infer_resets.specs.declared.meet.Source.{Source}
use Rattle.fir_infer_resets.specs.declared.meet.Source.TheVariants as source
use Rattle.fir_infer_resets.specs.declared.root.Root.{Root}
use Rattle.fir_infer_resets.specs.declared.root.Root.TheVariants as root
use Rattle.fir_infer_resets.specs.working.FirstPairs.{met_pairs}
use Rattle.fir_infer_resets.specs.working.FirstEnds.{IsReferenceRoot, IsNodeRoot, JoinsMet}

abbrev pub pick_lengths : LeafRange → List ℕ
pick_lengths r = map (λ (p : Pick). p.length) r.picks.items

abbrev pub IsSourceRoot : CircuitTree → ℕ → Source → Option (Root × Found) → Type 0
IsSourceRoot c number (source.Reference r (Some range)) (Some x) = IsReferenceRoot c number (sink_of r.now) (pick_lengths range.now) x.0 × (x.1 ≡ range.now.found)
IsSourceRoot c number (source.Reference r None) None = Unit {0}
IsSourceRoot c number (source.Value p (Some found)) (Some x) = (x.0 ≡ root.Value p) × (x.1 ≡ found)
IsSourceRoot c number (source.Value p None) None = Unit {0}
IsSourceRoot c number _ _ = ⊥

-- nothing, where the source is nothing
abbrev pub SidesJoined : CircuitTree → ℕ → List DataType → Bool → Root → Found → Option (Root × Found) → Joined → Joined → Type 0
SidesJoined c number ts partly left one None old new = new ≡ old
SidesJoined c number ts partly left one (Some x) old new = JoinsMet c number left x.0 (met_pairs partly [] (found_type ts one) (found_type ts x.1)) old new

pub record OfConnect (c : CircuitTree) (number : ℕ) (ts : List DataType) (partly : Bool) (sink : SinkReference) (range : LeafRange) (given : Source) (old new : Joined) : Type 0 where
  pub left : Root
  pub right : Option (Root × Found)
  pub left_is : IsReferenceRoot c number sink (pick_lengths range) left
  pub right_is : IsSourceRoot c number given right
  pub joined : SidesJoined c number ts partly left range.found right old new

abbrev pub ConnectJoined : CircuitTree → ℕ → List DataType → Bool → SinkReference → Option LeafRange → Source → Joined → Joined → Type 0
ConnectJoined c number ts partly sink None given old new = new ≡ old
ConnectJoined c number ts partly sink (Some range) given old new = OfConnect c number ts partly sink range given old new

-- both of one type
abbrev pub NodeSidesJoined : CircuitTree → ℕ → List DataType → Root → Option (Root × Found) → Joined → Joined → Type 0
NodeSidesJoined c number ts left None old new = new ≡ old
NodeSidesJoined c number ts left (Some x) old new = JoinsMet c number left x.0 (met_pairs false [] (found_type ts x.1) (found_type ts x.1)) old new

pub record NodeJoined (c : CircuitTree) (number : ℕ) (ts : List DataType) (n : PlacedName) (given : Source) (old new : Joined) : Type 0 where
  pub left : Root
  pub right : Option (Root × Found)
  pub left_is : IsNodeRoot n left
  pub right_is : IsSourceRoot c number given right
  pub joined : NodeSidesJoined c number ts left right old new

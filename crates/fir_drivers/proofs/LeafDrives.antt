-- A leaf is driven, or each that indices may pick.
use Rattle.std.proofs.Common.{◌≡◌, ℕ, ◌≤◌, List, [], ◌∷◌, Bool, true, false, if◌then◌else◌, Some, refl, sym, ap, ◌∙◌, subst, nat_eq, ◌⊎◌, inl, inr}
use Rattle.std.proofs.lemmas.Bool.{eqb-true}
use Rattle.fir_bits.specs.declared.types.NumTy.{NumTy}
use Rattle.fir_meaning.specs.working.LeafBlocks.{LeafStatement}
use Rattle.fir_meaning.specs.LeafTypes.{LeafType}
use Rattle.fir_meaning.specs.working.TermValues.{Holds}
use Rattle.fir_meaning.specs.working.Terms.{Term, Picks, zeros, no_picks, pick}
use Rattle.fir_leaf.specs.declared.statement.Drive.{Drive}
use Rattle.fir_leaf.specs.declared.statement.LeafStmt.TheVariants as code
use Rattle.fir_leaf.specs.working.Nodes.{entries, node_term, picks_at}
use Rattle.fir_leaf.specs.working.NodeBlocks.{statement_in}
use Rattle.fir_leaf_types.specs.working.TypedBlocks.{IsTyped}
use Rattle.fir_leaf_types.specs.working.TypedTerms.{HasType}
use Rattle.fir_driven.specs.working.Covering.{depth_in}
use Rattle.fir_driven.proofs.LeafViews.{drive_view}
use Rattle.fir_net.specs.declared.node.Node.{Node}
use Rattle.fir_connect.specs.working.Drivers.{driven_by, driver, given}
use Rattle.fir_connect.specs.working.Lowered.{zero_of}
use Rattle.fir_connect.specs.working.LoweredLaws.{types_of}
use Rattle.fir_connect.specs.working.NetTerms.{NetTerm}
use Rattle.fir_merge.specs.declared.bound.Bound.{Bound}
use Rattle.fir_merge.specs.declared.elements.Element.{Element}
use Rattle.fir_merge.specs.declared.index.Index.{Index}
use Rattle.fir_merge.specs.working.Bounds.{StandsFor, types_in}
use Rattle.fir_merge.specs.working.Elements.{ElementsStand}
use Rattle.fir_merge.specs.working.Entries.{EntriesStand, IndicesStand, value_in}
use Rattle.fir_merge.specs.working.Made.{elements}
use Rattle.fir_merge.specs.working.NodeTerms.{Grows}
use Rattle.fir_merge.proofs.GrownTerms.{grows_more}
use Rattle.fir_merge.proofs.MadeTerms.{IsPicked}
use Rattle.fir_merge.proofs.StandingValues.{stands_later}
use Rattle.fir_drivers.specs.declared.setting.Setting.{Setting}
use Rattle.fir_drivers.specs.working.Slots.{SlotStands, SlotsBecome}
use Rattle.fir_drivers.specs.working.Walks.{DrivesLeaves, GivenStands, Walks, WritesElements, ZeroStandsAt, is_zeros}
use Rattle.fir_drivers.proofs.LaterSettings.{entries_later, lowered_stands}
use Rattle.fir_drivers.proofs.SlotSteps.{slot_later}
use Rattle.fir_drivers.proofs.ThroughCandidates.{driven_elements, given_lowered, given_zeros}

-- what `is invalid` gives
pub zeros_given : (s : Setting) (old new : List Node) (d : Drive) (r : Bound) → true ≡ is_zeros (node_term s.nodes.now d.given)
    → ZeroStandsAt new (types_in s.types.now d.leaf) r → GivenStands s old new d r
zeros_given s old new d r is zero = λ held set may.
    let type : types_in s.types.now d.leaf ≡ types_of held d.leaf = ap (λ (f : Holds). f d.leaf) set.types in
    let narrow : (types_in s.types.now d.leaf).width ≤ 128 = subst (λ (t : NumTy). t.width ≤ 128) (sym type) (set.narrow d.leaf) in
    let there = zero (types_of held) narrow in
    subst (StandsFor (types_of held) new r)
    (ap zero_of type ∙ sym (given_zeros (types_of held) d.leaf (node_term s.nodes.now d.given) (sym is))) there

-- and what a connect gives
pub value_given : (s : Setting) (net : List Node) (d : Drive) (r : Bound) → false ≡ is_zeros (node_term s.nodes.now d.given)
    → r ≡ value_in s.nodes.now s.bounds.now s.nothing.now d.given → GivenStands s net net d r
value_given s net d r is value = λ held set may.
    let e = node_term s.nodes.now d.given in
    let has : HasType held e may.data_type = typed held e may.data_type (sym is) may.has in
    subst (λ (b : Bound). StandsFor (types_of held) net b (given (types_of held) d.leaf e)) (sym value)
    (subst (StandsFor (types_of held) net (value_in s.nodes.now s.bounds.now s.nothing.now d.given))
    (sym (given_lowered (types_of held) d.leaf e (sym is))) (lowered_stands held s net d.given may.data_type set has))
  where
    typed : (held : ℕ → LeafType) (e : Term) (u : LeafType) → is_zeros e ≡ false → (e ≡ zeros) ⊎ HasType held e u → HasType held e u
    typed held e u h (inl z) = absurd (let no : is_zeros e ≡ true = ap is_zeros z in cc)
    typed held e u h (inr has) = has

-- indices by how many there are
none_picked : (holds : Holds) (net : List Node) (indices : List Index) (ps : Picks) → indices ≡ [] → IndicesStand holds net indices ps → ps ≡ no_picks
none_picked holds net [] no_picks is h = refl
none_picked holds net [] (pick ps p i n each) is h = absurd h
none_picked holds net (x ∷ xs) ps is h = absurd cc

some_picked : (holds : Holds) (net : List Node) (indices : List Index) (ps : Picks) → (indices ≡ [] → ⊥) → IndicesStand holds net indices ps → IsPicked ps
some_picked holds net [] ps some h = absurd (some refl)
some_picked holds net (x ∷ xs) no_picks some h = absurd h
some_picked holds net (x ∷ xs) (pick ps p i n each) some h = tt

abbrev pub AllIndicesStand : Setting → Drive → List Index → Type 0
AllIndicesStand s d indices =
    (holds : Holds) (net : List Node) → EntriesStand holds net s.bounds.now (entries s.nodes.now)
    → IndicesStand holds net indices (picks_at (entries s.nodes.now) d.picks)

module _ (s : Setting) (d : Drive) (indices : List Index) (all : AllIndicesStand s d indices) where
  -- one leaf
  pub drives_one : (net new : List Node) (old later : List Bound) (r : Bound) → Grows net new → indices ≡ [] → GivenStands s net new d r
      → SlotsBecome old later (λ x b. if nat_eq d.leaf x then r else b) → DrivesLeaves s (statement_in s.nodes.now (code.Drive d)) net new old later
  drives_one net new old later r grows none gives becomes = λ held depth set typed.
      let ps = picks_at (entries s.nodes.now) d.picks in
      let e = node_term s.nodes.now d.given in
      let view = drive_view s.nodes.now d in
      let parts = subst (IsTyped held) view typed in
      let unpicked : ps ≡ no_picks = none_picked (types_of held) net indices ps none (all (types_of held) net set.entries) in
      let of_r = gives held set parts.0 in
      subst
      (λ (z : LeafStatement). Walks (types_of held) net new old later (λ y t. driver (types_of held) (depth_in s.depths.now y) y z depth t))
      (sym view)
      (record {
        same_length = becomes.same_length;
        each = λ x t h.
            subst
            (λ (qs : Picks).
            SlotStands (types_of held) new later x (driven_by (types_of held) (depth_in s.depths.now x) x d.leaf qs (given (types_of held) x e) t))
            (sym unpicked) (one held e of_r x t h (nat_eq d.leaf x) refl);
      })
    where
      one : (held : ℕ → LeafType) (e : Term) → StandsFor (types_of held) new r (given (types_of held) d.leaf e) → (x : ℕ) (t : NetTerm)
          → SlotStands (types_of held) net old x t → (here : Bool) → nat_eq d.leaf x ≡ here
          → SlotStands (types_of held) new later x (if here then given (types_of held) x e else t)
      one held e of_r x t h true is =
          let same : d.leaf ≡ x = eqb-true d.leaf x is in
          record {
            bound = r;
            is = rw is at (becomes.each x h.bound h.is);
            stands = subst (λ (y : ℕ). StandsFor (types_of held) new r (given (types_of held) y e)) same of_r;
          }
      one held e of_r x t h false is =
          slot_later (types_of held) net new old later x t grows (becomes.each x h.bound h.is ∙ ap Some (rw is refl) ∙ sym h.is) h

  -- each that the indices may pick
  pub drives_each : (net middle later new : List Node) (old slots : List Bound) (r : Bound) (es : List Element) → Grows net middle → Grows middle later
      → (indices ≡ [] → ⊥) → GivenStands s net middle d r
      → ((holds : Holds) (ps : Picks) → IndicesStand holds middle indices ps → ElementsStand holds later es (elements holds ps))
      → WritesElements later new old slots d.leaf es r → DrivesLeaves s (statement_in s.nodes.now (code.Drive d)) net new old slots
  drives_each net middle later new old slots r es first second some gives found writes = λ held depth set typed.
      let ps = picks_at (entries s.nodes.now) d.picks in
      let e = node_term s.nodes.now d.given in
      let view = drive_view s.nodes.now d in
      let parts = subst (IsTyped held) view typed in
      let entries_stand = entries_later (types_of held) net middle s.bounds.now (entries s.nodes.now) first set.entries in
      let indices_stand = all (types_of held) middle entries_stand in
      let picked : IsPicked ps = some_picked (types_of held) middle indices ps some indices_stand in
      let of_r = stands_later (types_of held) middle later r (given (types_of held) d.leaf e) second (gives held set parts.0) in
      let walks = writes (types_of held) (elements (types_of held) ps) (given (types_of held) d.leaf e) (found (types_of held) ps indices_stand) of_r in
      subst
      (λ (z : LeafStatement). Walks (types_of held) net new old slots (λ y t. driver (types_of held) (depth_in s.depths.now y) y z depth t))
      (sym view)
      (record {
        same_length = walks.same_length;
        each = λ x t h.
            subst (SlotStands (types_of held) new slots x)
            (driven_elements held (depth_in s.depths.now x) x d.leaf e t ps picked parts.1 parts.2)
            (walks.each x t (slot_later (types_of held) net later old old x t (grows_more net middle later first second) refl h));
      })

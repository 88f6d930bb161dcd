-- Where the module of a copy stands in the table of a design, and what is known of lists of copies.
use Rattle.std.proofs.Common.{◌≡◌, ℕ, ◌+◌, ◌-◌, ◌<◌, ◌≤◌, List, [], ◌∷◌, ◌++◌, Bool, map, true, false, nat_lt, length, slice_get, Some, refl, ◌∙◌, subst, inl, inr, ⊎_elim, arith}
use Rattle.std.proofs.lemmas.Bool.{ltb-false, ltb-true}
use Rattle.fir_base.specs.Lists.{In}
use Rattle.fir_base.proofs.Members.{in_either, in_left, in_right}
use Rattle.fir_meaning.specs.LeafPaths.{LeafPath}
use Rattle.fir_meaning.specs.ModuleScenes.{Scene}
use Rattle.fir_meaning.specs.SourceDependence.{PlacedModule}
use Rattle.fir_meaning.specs.working.FlatLeaves.{placed_array, placed_leaf}
use Rattle.fir_meaning.specs.working.LeafBlocks.{HeldInstance}
use Rattle.fir_meaning.specs.working.LeafModules.{LeafArray, LeafDeclared, LeafModule, leaf_at, role_at, sink, source}
use Rattle.fir_meaning.specs.working.LeafedModules.{leafed_module, module_leaves}
use Rattle.fir_meaning.specs.working.Numberings.{Numbering, number, numbering}
use Rattle.fir_leaf.proofs.FlatPlaces.{At}
use Rattle.fir_leaf.proofs.MovedTerms.{Stands}
use Rattle.fir_design.proofs.HeldInstances.{Held, all_held_in}
use Rattle.fir_design.proofs.ListsInStep.{AreInStep, step_joined}
use Rattle.fir_copies.specs.working.Copies.{Copy}

-- all modules have one assignment of widths
abbrev pub HaveOneWidths : List Scene → Type 0
HaveOneWidths scenes = (s u : Scene) → In scenes s → In scenes u → s.widths ≡ u.widths

-- a port of an instance, in the module that holds the instance: it holds what the port does, and what the instance's module gives is a source there, and stands
-- where the port does
pub record IsGivenPort (scenes : List Scene) (m c : LeafModule) (i : HeldInstance) (z : ℕ) : Type 0 where
  pub holds : HaveOneWidths scenes → (leaf_at m.leaves (i.first + z)).holds ≡ (leaf_at c.leaves z).holds
  pub gives : role_at c z ≡ sink → role_at m (i.first + z) ≡ source
  pub place : role_at c z ≡ sink → (leaf_at m.leaves (i.first + z)).place ≡ (leaf_at c.leaves z).place

-- the leaves of a module's ports, from a number of the table on: they hold what the ports do, and what the module gives is driven, and
-- stands where the port does
pub record PortsStand (scenes : List Scene) (table : List LeafDeclared) (m : LeafModule) (first : ℕ) : Type 0 where
  pub holds : HaveOneWidths scenes → (z : ℕ) → z < m.port_leaves → (leaf_at table (first + z)).holds ≡ (leaf_at m.leaves z).holds
  pub sinks : (z : ℕ) → z < m.port_leaves → role_at m z ≡ sink → (leaf_at table (first + z)).role ≡ sink
  pub places : (z : ℕ) → z < m.port_leaves → role_at m z ≡ sink → (leaf_at table (first + z)).place ≡ (leaf_at m.leaves z).place

-- a module's own leaves
abbrev pub ArePlaced : List LeafDeclared → LeafPath → ℕ → Numbering → ℕ → LeafModule → Type 0
ArePlaced table path k n array m =
    (x : ℕ) → m.port_leaves ≤ x → x < length m.leaves → leaf_at table (number n x) ≡ placed_leaf path k n array (leaf_at m.leaves x)

-- and its arrays
abbrev pub AreArraysAt : List LeafArray → LeafPath → Numbering → ℕ → LeafModule → Type 0
AreArraysAt whole path n array m = At whole array (map (placed_array path n) m.arrays)

-- a copy of the module of an instance
pub record HasChild (n : Numbering) (ks : List Copy) (h : Held) : Type 0 where
  pub copy : Copy
  pub among : In ks copy
  pub module_number : copy.module_number ≡ h.own.module_number
  pub first : copy.first ≡ number n h.own.first

module _ (scenes : List Scene) (table : List LeafDeclared) where
  pub record CopyStands (hs : List PlacedModule) (ks : List Copy) (k : Copy) : Type 0 where
    pub scene : Scene
    pub is : slice_get scenes k.module_number ≡ Some scene
    pub path : LeafPath
    pub whens : ℕ
    pub among : In hs (record { at = path; scene = scene })
    pub stands : Stands table (numbering (leafed_module scene) k.first k.own) path whens (leafed_module scene)
    pub ports : PortsStand scenes table (leafed_module scene) k.first
    pub placed : ArePlaced table path whens (numbering (leafed_module scene) k.first k.own) k.array (leafed_module scene)
    pub children :
        (h : Held) → In (all_held_in 0 (leafed_module scene).body) h → HasChild (numbering (leafed_module scene) k.first k.own) ks h

  -- a copy of a module of the tree
  pub record IsCopyOf (k : Copy) (h : PlacedModule) : Type 0 where
    pub is : slice_get scenes k.module_number ≡ Some h.scene
    pub whens : ℕ
    pub stands : Stands table (numbering (leafed_module h.scene) k.first k.own) h.at whens (leafed_module h.scene)
    pub ports : PortsStand scenes table (leafed_module h.scene) k.first
    pub placed : ArePlaced table h.at whens (numbering (leafed_module h.scene) k.first k.own) k.array (leafed_module h.scene)
    -- the ports stand before what is the module's own
    pub apart : k.first + (leafed_module h.scene).port_leaves ≤ k.own

  -- a leaf that is no port of a copy's module
  pub record IsInner (ks : List Copy) (y : ℕ) : Type 0 where
    pub copy : Copy
    pub among : In ks copy
    pub scene : Scene
    pub is : slice_get scenes copy.module_number ≡ Some scene
    pub leaf : ℕ
    pub own : (leafed_module scene).port_leaves ≤ leaf
    pub within : leaf < length (module_leaves scene)
    pub number_is : number (numbering (leafed_module scene) copy.first copy.own) leaf ≡ y

  child_more : (n : Numbering) (ks ls : List Copy) → ((k : Copy) → In ks k → In ls k) → (h : Held) → HasChild n ks h → HasChild n ls h
  child_more n ks ls f h c = record { copy = c.copy; among = f c.copy c.among; module_number = c.module_number; first = c.first }

  inner_more : (ks ls : List Copy) (y : ℕ) → ((k : Copy) → In ks k → In ls k) → IsInner ks y → IsInner ls y
  inner_more ks ls y f i = record {
    copy = i.copy;
    among = f i.copy i.among;
    scene = i.scene;
    is = i.is;
    leaf = i.leaf;
    own = i.own;
    within = i.within;
    number_is = i.number_is;
  }

  pub stands_more : (hs gs : List PlacedModule) (ks ls : List Copy) (k : Copy) → ((h : PlacedModule) → In hs h → In gs h)
      → ((c : Copy) → In ks c → In ls c) → CopyStands hs ks k → CopyStands gs ls k
  stands_more hs gs ks ls k f g s = record {
    scene = s.scene;
    is = s.is;
    path = s.path;
    whens = s.whens;
    among = f (record { at = s.path; scene = s.scene }) s.among;
    stands = s.stands;
    ports = s.ports;
    placed = s.placed;
    children = λ h i. child_more (numbering (leafed_module s.scene) k.first k.own) ks ls g h (s.children h i);
  }

  module _ (whole : List LeafArray) where
    -- with its arrays in the list of the whole
    pub record StandsWhole (hs : List PlacedModule) (ks : List Copy) (k : Copy) : Type 0 where
      pub stands : CopyStands hs ks k
      pub arrays :
          AreArraysAt whole stands.path (numbering (leafed_module stands.scene) k.first k.own) k.array (leafed_module stands.scene)

    -- copies whose own leaves are those from a number to another
    pub record HaveCopies (hs : List PlacedModule) (low high : ℕ) (ks : List Copy) : Type 0 where
      pub each : (k : Copy) → In ks k → StandsWhole hs ks k
      pub covers : (y : ℕ) → low ≤ y → y < high → IsInner ks y
      -- in the order of the tree
      pub in_step : AreInStep IsCopyOf ks hs

    whole_more : (hs gs : List PlacedModule) (ks ls : List Copy) (k : Copy) → ((h : PlacedModule) → In hs h → In gs h)
        → ((c : Copy) → In ks c → In ls c) → StandsWhole hs ks k → StandsWhole gs ls k
    unfolding stands_more
    whole_more hs gs ks ls k f g s = record { stands = stands_more hs gs ks ls k f g s.stands; arrays = s.arrays }

    -- of a part of a module's statements, with its instances
    pub record PartCopies (n : Numbering) (hs : List PlacedModule) (low high : ℕ) (ks : List Copy) (held : List Held) : Type 0 where
      pub have : HaveCopies hs low high ks
      pub children : (h : Held) → In held h → HasChild n ks h

    pub no_copies : (n : Numbering) (low : ℕ) → PartCopies n [] low low [] []
    no_copies n low = record {
      have = record { each = λ k i. absurd i; covers = λ y le lt. absurd (omega (arith, le, lt)); in_step = tt };
      children = λ h i. absurd i;
    }

    pub both_copies : (n : Numbering) (hs gs : List PlacedModule) (low middle high : ℕ) (ks ls : List Copy) (us vs : List Held)
        → PartCopies n hs low middle ks us → PartCopies n gs middle high ls vs → PartCopies n (hs ++ gs) low high (ks ++ ls) (us ++ vs)
    both_copies n hs gs low middle high ks ls us vs a b =
        let left : (k : Copy) → In ks k → In (ks ++ ls) k = λ k i. in_left ks ls k i in
        let right : (k : Copy) → In ls k → In (ks ++ ls) k = λ k i. in_right ks ls k i in
        record {
          have = record {
            each = λ k i.
                ⊎_elim (λ (j : In ks k). whole_more hs (hs ++ gs) ks (ks ++ ls) k (λ h p. in_left hs gs h p) left (a.have.each k j))
                (λ (j : In ls k). whole_more gs (hs ++ gs) ls (ks ++ ls) k (λ h p. in_right hs gs h p) right (b.have.each k j)) (in_either ks ls k i);
            covers = λ y le lt. by y le lt (nat_lt y middle) refl;
            in_step = step_joined IsCopyOf ks ls hs gs a.have.in_step b.have.in_step;
          };
          children = λ h i.
              ⊎_elim (λ (j : In us h). child_more n ks (ks ++ ls) left h (a.children h j))
              (λ (j : In vs h). child_more n ls (ks ++ ls) right h (b.children h j)) (in_either us vs h i);
        }
      where
        by : (y : ℕ) → low ≤ y → y < high → (t : Bool) → nat_lt y middle ≡ t → IsInner (ks ++ ls) y
        by y le lt true e = inner_more ks (ks ++ ls) y (λ k i. in_left ks ls k i) (a.have.covers y le (ltb-true y middle e))
        by y le lt false e = inner_more ls (ks ++ ls) y (λ k i. in_right ks ls k i) (b.have.covers y (ltb-false y middle e) lt)

    -- those of an instance's design, whose own copy stands in front
    pub one_copy : (n : Numbering) (hs : List PlacedModule) (low high : ℕ) (k : Copy) (ks : List Copy) (h : Held) → HaveCopies hs low high (k ∷ ks)
        → k.module_number ≡ h.own.module_number → k.first ≡ number n h.own.first → PartCopies n hs low high (k ∷ ks) (h ∷ [])
    one_copy n hs low high k ks h have number_is first = record {
      have = have;
      children = λ g i.
          ⊎_elim
          (λ (e : h ≡ g).
          subst (HasChild n (k ∷ ks)) e (record { copy = k; among = inl refl; module_number = number_is; first = first }))
          (λ (j : In [] g). absurd j) i;
    }

    -- of a module with those of its instances
    module _ (k : Copy) (hs : List PlacedModule) (low high : ℕ) (ks : List Copy) (s : Scene) (path : LeafPath) (whens : ℕ)
        (part : PartCopies (numbering (leafed_module s) k.first k.own) hs low high ks (all_held_in 0 (leafed_module s).body))
        (is : slice_get scenes k.module_number ≡ Some s)
        (stands : Stands table (numbering (leafed_module s) k.first k.own) path whens (leafed_module s))
        (ports : PortsStand scenes table (leafed_module s) k.first)
        (placed : ArePlaced table path whens (numbering (leafed_module s) k.first k.own) k.array (leafed_module s))
        (arrays : AreArraysAt whole path (numbering (leafed_module s) k.first k.own) k.array (leafed_module s))
        (apart : k.first + (leafed_module s).port_leaves ≤ k.own)
        (long : low ≡ k.own + (length (leafed_module s).leaves - (leafed_module s).port_leaves))
        (own : (x : ℕ) → (leafed_module s).port_leaves ≤ x
        → number (numbering (leafed_module s) k.first k.own) x ≡ k.own + (x - (leafed_module s).port_leaves)) where
      abbrev m : LeafModule
      m = leafed_module s

      here : PlacedModule
      here = record { at = path; scene = s }

      pub made_copies : HaveCopies (record { at = path; scene = s } ∷ hs) k.own high (k ∷ ks)
      made_copies = record {
        each = λ c i.
            ⊎_elim (λ (e : k ≡ c). subst (StandsWhole (record { at = path; scene = s } ∷ hs) (k ∷ ks)) e mine)
            (λ (j : In ks c). whole_more hs (record { at = path; scene = s } ∷ hs) ks (k ∷ ks) c (λ h p. inr p) (λ d p. inr p) (part.have.each c j)) i;
        covers = λ y le lt. by y le lt (nat_lt y low) refl;
        in_step = (
          record { is = is; whens = whens; stands = stands; ports = ports; placed = placed; apart = apart },
          part.have.in_step,
        );
      }
        where
          mine : StandsWhole (record { at = path; scene = s } ∷ hs) (k ∷ ks) k
          mine = record {
            stands = record {
              scene = s;
              is = is;
              path = path;
              whens = whens;
              among = inl refl;
              stands = stands;
              ports = ports;
              placed = placed;
              children = λ h i. child_more (numbering (leafed_module s) k.first k.own) ks (k ∷ ks) (λ c p. inr p) h (part.children h i);
            };
            arrays = arrays;
          }

          by : (y : ℕ) → k.own ≤ y → y < high → (t : Bool) → nat_lt y low ≡ t → IsInner (k ∷ ks) y
          by y le lt true e =
              let x = m.port_leaves + (y - k.own) in
              let less = ltb-true y low e in
              let there : m.port_leaves ≤ m.port_leaves + (y - k.own) = omega arith in
              record {
                copy = k;
                among = inl refl;
                scene = s;
                is = is;
                leaf = x;
                own = there;
                within = omega (arith, less, long, le);
                number_is = own (m.port_leaves + (y - k.own)) there ∙ omega (arith, le);
              }
          by y le lt false e = inner_more ks (k ∷ ks) y (λ c p. inr p) (part.have.covers y (ltb-false y low e) lt)

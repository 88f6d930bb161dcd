-- What the walk makes, one form behind the other.
use Rattle.std.proofs.Common.{◌≡◌, ℕ, List, map, length, refl, sym, subst, ◌∙◌}
use Rattle.fir_ast.specs.Types.{DataType}
use Rattle.fir_meaning.specs.TypedScopes.{TypedScope}
use Rattle.fir_types.specs.working.Notes.{Note}
use Rattle.fir_leaf.specs.declared.node.Node.{Node}
use Rattle.fir_meaning.specs.working.Leafed.{first_term, target_terms}
use Rattle.fir_leaf.specs.working.Nodes.{AllBelow, Gives, Grows, Shows, node_term}
use Rattle.fir_meaning.specs.working.Targets as over
use Rattle.fir_meaning.specs.working.Terms.{Term}
use Rattle.fir_ground.specs.declared.ground.Ground.{Ground}
use Rattle.fir_leaf_pairs.specs.declared.target.Target.{Target}
use Rattle.fir_ground.specs.declared.walk.Walk.{Walk}
use Rattle.fir_ground.specs.working.Expressions.{ExpandsFirst}
use Rattle.fir_ground.specs.working.Grounds.{Ahead, Comes, Enters, Expands, Reaches, types_in}
use Rattle.fir_leaf_pairs.specs.working.TargetNames.{Names}
use Rattle.fir_leaf_pairs.specs.working.Reads.{IsWithinCost}
use Rattle.fir_leaf_pairs.proofs.Entries.{grows_length, grows_none, grows_on, picks_keep, picks_stay}
use Rattle.fir_leaf_pairs.proofs.Giving.{gives_on, shows_on}

module _ (g : Ground) where
  pub come_none : (rest : List Note) (a : Walk) → Ahead (types_in g) a.notes.now rest → Comes g rest a a
  come_none rest a ahead = record { grows = grows_none a.nodes.items; ahead = ahead; drivers = refl }

  pub come_then : (next rest : List Note) (a b d : Walk) → Comes g next a b → Comes g rest b d → Comes g rest a d
  come_then next rest a b d one two = record {
    grows = grows_on a.nodes.items b.nodes.items d.nodes.items one.grows two.grows;
    ahead = two.ahead;
    drivers = two.drivers ∙ one.drivers;
  }

  -- behind a form stands what stood before it
  pub enters_then : (typed : TypedScope) (notes next : List Note) (a b : Walk) → Enters g typed notes a → Comes g next a b → Enters g typed next b
  enters_then typed notes next a b enters one = record { stands = enters.stands; ahead = one.ahead }

  -- a form behind others
  pub expands_then : (next rest : List Note) (a b d : Walk) (ids : List ℕ) (ts : List Term) → Comes g next a b → Expands g rest b d ids ts → Expands g rest a d ids ts
  expands_then next rest a b d ids ts one two = record {
    comes = come_then next rest a b d one two.comes;
    gives = gives_on a.nodes.items b.nodes.items d.nodes.items ids ts one.grows two.gives;
  }

  -- nodes that come when the notes are read
  pub expands_nodes : (rest : List Note) (a b new : Walk) (ids : List ℕ) (ts : List Term) → Comes g rest a b → new.notes.now ≡ b.notes.now
      → new.drivers ≡ b.drivers → Gives b.nodes.items new.nodes.items ids ts
      → Expands g rest a new ids ts
  expands_nodes rest a b new ids ts one same still gives = record {
    comes = record {
      grows = grows_on a.nodes.items b.nodes.items new.nodes.items one.grows gives.grows;
      ahead = subst (λ ns. Ahead (types_in g) ns rest) (sym same) one.ahead;
      drivers = still ∙ one.drivers;
    };
    gives = gives_on a.nodes.items b.nodes.items new.nodes.items ids ts one.grows gives;
  }

  -- the nodes of a form, when its note is passed
  pub form_expands : (rest : List Note) (a new : Walk) (ids : List ℕ) (ts : List Term) → Ahead (types_in g) new.notes.now rest
      → new.drivers ≡ a.drivers → Gives a.nodes.items new.nodes.items ids ts
      → Expands g rest a new ids ts
  form_expands rest a new ids ts ahead still gives = record { comes = record { grows = gives.grows; ahead = ahead; drivers = still }; gives = gives }

  pub expands_first : (rest : List Note) (a b new : Walk) (ids : List ℕ) (id : ℕ) (ts : List Term) → Expands g rest a b ids ts
      → new.notes.now ≡ b.notes.now → new.drivers ≡ b.drivers
      → (AllBelow (length b.nodes.items) ids → Shows b.nodes.items new.nodes.items id (first_term (map (node_term b.nodes.items) ids))) → ExpandsFirst g rest a new id (first_term ts)
  expands_first rest a b new ids id ts own same still first =
      let shows = subst (λ us. Shows b.nodes.items new.nodes.items id (first_term us)) own.gives.terms (first own.gives.within) in
      record {
        comes = record {
          grows = grows_on a.nodes.items b.nodes.items new.nodes.items own.comes.grows shows.grows;
          ahead = subst (λ ns. Ahead (types_in g) ns rest) (sym same) own.comes.ahead;
          drivers = still ∙ own.comes.drivers;
        };
        shows = shows_on a.nodes.items b.nodes.items new.nodes.items id (first_term ts) own.comes.grows shows;
      }

  -- the nodes of what a reference names
  pub reference_expands : (rest : List Note) (a b new : Walk) (t : Target) (r : over.Target) (ids : List ℕ) → Reaches g rest a b t r → IsWithinCost r
      → new.notes.now ≡ b.notes.now → new.drivers ≡ b.drivers
      → ((meant : over.Target) → Names (types_in g) b.nodes.items t meant → IsWithinCost meant → Gives b.nodes.items new.nodes.items ids (target_terms meant))
      → Expands g rest a new ids (target_terms r)
  reference_expands rest a b new t r ids reaches small same still read =
      expands_nodes rest a b new ids (target_terms r) reaches.comes same still (read r reaches.names small)

-- a target stays what it is
pub names_stay : (ts : List DataType) (old new : List Node) (t : Target) (r : over.Target) → Grows old new → Names ts old t r → Names ts new t r
names_stay ts old new t r g n = record {
  base = n.base;
  within = picks_stay (length old) (length new) t.picks (grows_length old new g) n.within;
  picks = picks_keep old new t.picks g n.within ∙ n.picks;
  data_type = n.data_type;
}

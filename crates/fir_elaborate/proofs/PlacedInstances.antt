-- Where the leaves of an instance stand among those of its module: behind all that is declared before it, and before all that is declared behind it;
-- and none of them shows state.
use Rattle.std.proofs.Common.{◌≡◌, ℕ, suc, ◌+◌, ◌-◌, ◌<◌, ◌≤◌, List, [], ◌∷◌, ◌++◌, length, Bool, true, false, refl, sym, ap, ◌∙◌, subst, arith, length-append, ⊎_elim}
use Rattle.std.specs.Prelude.{if◌then◌else◌}
use Rattle.std.proofs.lemmas.List.{get_or-append_right, get_or_append_left}
use Rattle.fir_base.specs.Lists.{In}
use Rattle.fir_base.proofs.Members.{in_either}
use Rattle.fir_ast.specs.declared.place.Place.{Place}
use Rattle.fir_meaning.specs.LeafPaths.{named}
use Rattle.fir_meaning.specs.LeafTypes.{LeafType}
use Rattle.fir_meaning.specs.TypeLeaves.{TypeLeaf}
use Rattle.fir_meaning.specs.ModuleScenes.{Declared}
use Rattle.fir_meaning.specs.working.LeafBlocks.{HeldInstance}
use Rattle.fir_meaning.specs.working.LeafModules.{LeafDeclared, leaf_at, no_leaf, sink, source}
use Rattle.fir_meaning.specs.working.LeafedModules.{instance_role, leaves_from}
use Rattle.fir_meaning.specs.working.StateWalks.{is_state}
use Rattle.fir_leaf.proofs.OncePaths.{at_in}
use Rattle.fir_design.proofs.DeclaredRuns.{StandsAlone}
use Rattle.fir_design.proofs.LeafRuns.{declaration_of}

abbrev pub ShowsNone : LeafDeclared → Type 0
ShowsNone l = is_state l.role ≡ false

-- among the leaves of its module
pub record IsPlacedIn (leaves : List LeafDeclared) (i : HeldInstance) : Type 0 where
  pub within : i.first ≤ length leaves
  pub before : (x : ℕ) → x < i.first → (leaf_at leaves x).declaration < i.declaration
  pub behind : (x : ℕ) → i.first ≤ x → x < length leaves → i.declaration ≤ (leaf_at leaves x).declaration
  pub no_state : (x : ℕ) → x < length leaves → (leaf_at leaves x).declaration ≡ i.declaration → is_state (leaf_at leaves x).role ≡ false

role_shows : (k : ℕ) (l : TypeLeaf) → is_state (instance_role k l) ≡ false
role_shows k l = by l.flip
  where
    by : (b : Bool) → is_state (if b then sink else source) ≡ false
    by true = refl
    by false = refl

-- the leaves of an instance show no state
pub instance_shows : (d : Declared) (place : TypeLeaf → Place) (k : ℕ) (ls : List TypeLeaf) (hs : List LeafType) (l : LeafDeclared)
    → In (leaves_from d place instance_role k ls hs) l → ShowsNone l
instance_shows d place k [] hs l among = absurd among
instance_shows d place k (x ∷ ls) [] l among = absurd among
instance_shows d place k (x ∷ ls) (h ∷ hs) l among =
    ⊎_elim
    (λ (e : record {
      place = place x;
      declaration = length d.before.declared;
      instances = 0;
      path = named d.named.name ∷ x.path;
      holds = h;
      depth = d.before.depth;
      role = instance_role k x;
    } ≡ l). subst ShowsNone e (role_shows k x))
    (λ (rest : In (leaves_from d place instance_role (suc k) ls hs) l). instance_shows d place (suc k) ls hs l rest) among

module _ (leaves : List LeafDeclared) (from upto b : ℕ) (own : List LeafDeclared) (later : from < upto)
    (h : StandsAlone declaration_of leaves from upto b own) where
  all_long : length leaves ≡ length h.front + length (own ++ h.after)
  all_long = ap length h.is ∙ length-append h.front (own ++ h.after)

  leaf_before : (x : ℕ) → x < b → (leaf_at leaves x).declaration < from
  leaf_before x lt =
      let within : x < length h.front = omega (arith, lt, h.long) in
      let here : leaf_at leaves x ≡ leaf_at h.front x =
      ap (λ ls. leaf_at ls x) h.is ∙ get_or_append_left h.front (own ++ h.after) no_leaf x within in
      subst (λ (l : LeafDeclared). l.declaration < from) (sym here) (h.low (leaf_at h.front x) (at_in h.front no_leaf x within))

  leaf_behind : ((l : LeafDeclared) → In own l → l.declaration ≡ from) → (x : ℕ) → b ≤ x → x < length leaves
      → from ≤ (leaf_at leaves x).declaration
  leaf_behind mine x le lt =
      let within : x - b < length (own ++ h.after) = omega (arith, le, lt, all_long, h.long) in
      let here : leaf_at leaves x ≡ leaf_at (own ++ h.after) (x - b) =
      ap (λ ls. leaf_at ls x) h.is ∙ get_or-append_right h.front (own ++ h.after) b x no_leaf h.long le in
      subst (λ (l : LeafDeclared). from ≤ l.declaration) (sym here)
      (⊎_elim
      (λ (m : In own (leaf_at (own ++ h.after) (x - b))). let e = mine (leaf_at (own ++ h.after) (x - b)) m in omega (arith, e))
      (λ (m : In h.after (leaf_at (own ++ h.after) (x - b))).
      let above = h.high (leaf_at (own ++ h.after) (x - b)) m in omega (arith, above, later))
      (in_either own h.after (leaf_at (own ++ h.after) (x - b)) (at_in (own ++ h.after) no_leaf (x - b) within)))

  -- a leaf of the declaration is one of its own
  leaf_own : (l : LeafDeclared) → In leaves l → l.declaration ≡ from → In own l
  leaf_own l among e =
      ⊎_elim (λ (m : In h.front l). let below = h.low l m in absurd (omega (arith, below, e)))
      (λ (m : In (own ++ h.after) l).
      ⊎_elim (λ (o : In own l). o) (λ (a : In h.after l). let above = h.high l a in absurd (omega (arith, above, e, later)))
      (in_either own h.after l m))
      (in_either h.front (own ++ h.after) l (subst (λ ls. In ls l) h.is among))

  pub instance_placed : (i : HeldInstance) → i.declaration ≡ from → i.first ≡ b → ((l : LeafDeclared) → In own l → l.declaration ≡ from)
      → ((l : LeafDeclared) → In own l → ShowsNone l) → IsPlacedIn leaves i
  instance_placed i declaration first mine none = record {
    within = omega (arith, first, all_long, h.long);
    before = λ x lt. let below = leaf_before x (omega (arith, lt, first)) in omega (arith, below, declaration);
    behind = λ x le lt. let above = leaf_behind mine x (omega (arith, le, first)) lt in omega (arith, above, declaration);
    no_state = λ x lt e. none (leaf_at leaves x) (leaf_own (leaf_at leaves x) (at_in leaves no_leaf x lt) (e ∙ declaration));
  }

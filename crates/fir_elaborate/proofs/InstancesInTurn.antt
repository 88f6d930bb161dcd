-- The instances of a module stand in the order of its declarations, each placed by its own, and none of them has an array.
use Rattle.std.proofs.Common.{◌≡◌, ℕ, suc, ◌+◌, ◌<◌, ◌≤◌, List, [], ◌∷◌, ◌++◌, map, length, Option, Some, None, refl, sym, ap, ◌∙◌, subst, append_assoc, append-nil, arith, length-append, inl, inr, ⊎_elim}
use Rattle.std.proofs.lemmas.List.{map-append}
use Rattle.fir_base.specs.Lists.{In}
use Rattle.fir_base.proofs.Members.{in_either}
use Rattle.fir_ast.specs.declared.place.Place.{Place}
use Rattle.fir_ast.specs.Statements.{PlacedName, Statement, wire, register, node, instance, memory, when, connect, partial_connect, invalid, skip, Block, done, then}
use Rattle.fir_ast.specs.Circuits.{ModuleTree}
use Rattle.fir_meaning.specs.Components as component
use Rattle.fir_meaning.specs.Components.{Component}
use Rattle.fir_meaning.specs.ExpressionTypes.{expression_type}
use Rattle.fir_meaning.specs.FoundTypes.{leaves_of_data, type_where}
use Rattle.fir_meaning.specs.ModuleScenes.{Declared, Scene, behind_all_ports, held_by_declared, scope_before, type_of_declared}
use Rattle.fir_meaning.specs.ResetJoins.{numbered_module}
use Rattle.fir_meaning.specs.TypeLeaves.{leaf_count}
use Rattle.fir_meaning.specs.Visibility.{Before, at_head, behind, behind_block, declaration_at, declarations, opened, reopened, with_declaration}
use Rattle.fir_meaning.specs.working.LeafBlocks as over
use Rattle.fir_meaning.specs.working.LeafBlocks.{HeldInstance, LeafBlock, LeafStatement, joined}
use Rattle.fir_meaning.specs.working.Leafed.{target_of}
use Rattle.fir_meaning.specs.working.LeafedBlocks.{instance_block, leafed, leafed_all, sides}
use Rattle.fir_meaning.specs.working.LeafedModules.{arrays_in, arrays_in_block, driven_leaves, instance_place, instance_role, leafed_module, leaves_in, leaves_in_block, leaves_of_ports, module_leaves}
use Rattle.fir_meaning.specs.working.LeafModules.{LeafArray, LeafDeclared}
use Rattle.fir_meaning.specs.working.LeafPairs.{leaf_pairs, partial_leaf_pairs}
use Rattle.fir_meaning.specs.working.Targets.{leaves_so_far}
use Rattle.fir_design.proofs.ArrayRuns.{array_declaration, block_run as array_block_run, statement_run as array_statement_run}
use Rattle.fir_design.proofs.CountedBlocks.{block_counted, statement_counted}
use Rattle.fir_design.proofs.DeclaredRuns.{IsRun, StandsAlone, alone_first, alone_second}
use Rattle.fir_design.proofs.DrivingBlocks.{invalid_none, pairs_none}
use Rattle.fir_design.proofs.HeldInstances.{Held, all_held_in, held_in}
use Rattle.fir_design.proofs.InstanceStatements.{longer_block, longer_statement}
use Rattle.fir_design.proofs.KnownDeclarations.{known_long}
use Rattle.fir_design.proofs.LeafRuns.{block_run, declaration_of, one_declares, ports_run, statement_run}
use Rattle.fir_design.proofs.PortLeaves.{port_far}
use Rattle.fir_elaborate.specs.working.OrderedModules.{AreDeclaredBehind, instances_in, instances_of}
use Rattle.fir_elaborate.proofs.PlacedInstances.{IsPlacedIn, instance_placed, instance_shows}

-- those of one block stand behind those of the other
instances_joined : (b c : LeafBlock) → instances_of (joined b c) ≡ instances_of b ++ instances_of c
instances_joined over.done c = refl
instances_joined (over.then s b) c =
    ap (λ is. instances_in s ++ is) (instances_joined b c) ∙ sym (append_assoc (instances_in s) (instances_of b) (instances_of c))

-- they are those that it holds, and so there are none where it holds none
mutual
  own_in : (k : ℕ) (s : LeafStatement) → map (λ (h : Held). h.own) (held_in k s) ≡ instances_in s
  own_in k (over.drive p b ps t) = refl
  own_in k (over.when p c a b) =
      map-append (λ (h : Held). h.own) (all_held_in (k + 1) a) (all_held_in (k + 1) b) ∙ rw (own_of (k + 1) a, own_of (k + 1) b) refl
  own_in k (over.instance i) = refl

  own_of : (k : ℕ) (b : LeafBlock) → map (λ (h : Held). h.own) (all_held_in k b) ≡ instances_of b
  own_of k over.done = refl
  own_of k (over.then s b) = map-append (λ (h : Held). h.own) (held_in k s) (all_held_in k b) ∙ rw (own_in k s, own_of k b) refl

none_held : (b : LeafBlock) → all_held_in 0 b ≡ [] → instances_of b ≡ []
none_held b e = sym (own_of 0 b) ∙ ap (map (λ (h : Held). h.own)) e

-- these are placed among the leaves, have no array, and are declared in turn from one declaration on and before another
pub record AreInTurn (leaves : List LeafDeclared) (arrays : List LeafArray) (from upto : ℕ) (is : List HeldInstance) : Type 0 where
  pub each : (i : HeldInstance) → In is i → IsPlacedIn leaves i
  pub apart : (i : HeldInstance) → In is i → (a : LeafArray) → In arrays a → a.declaration ≡ i.declaration → ⊥
  pub high : (i : HeldInstance) → In is i → i.declaration < upto
  pub turn : AreDeclaredBehind from is

pub lower : (from between : ℕ) (is : List HeldInstance) → from ≤ between → AreDeclaredBehind between is → AreDeclaredBehind from is
lower from between [] le h = tt
lower from between (i ∷ is) le h = let first = h.0 in (omega (arith, le, first), h.1)

behind_joined : (from between : ℕ) (is js : List HeldInstance) → from ≤ between → ((i : HeldInstance) → In is i → i.declaration < between)
    → AreDeclaredBehind from is → AreDeclaredBehind between js → AreDeclaredBehind from (is ++ js)
behind_joined from between [] js le below h k = lower from between js le k
behind_joined from between (i ∷ is) js le below h k =
    let lt = below i (inl refl) in
    (h.0, behind_joined (suc i.declaration) between is js (omega (arith, lt)) (λ j m. below j (inr m)) h.1 k)

module _ (leaves : List LeafDeclared) (arrays : List LeafArray) where
  none_in_turn : (from upto : ℕ) (is : List HeldInstance) → is ≡ [] → AreInTurn leaves arrays from upto is
  none_in_turn from upto is e = rw e (record { each = λ i m. absurd m; apart = λ i m. absurd m; high = λ i m. absurd m; turn = tt })

  one_in_turn : (from upto : ℕ) (i : HeldInstance) → from < upto → i.declaration ≡ from → IsPlacedIn leaves i
      → ((a : LeafArray) → In arrays a → a.declaration ≡ from → ⊥) → AreInTurn leaves arrays from upto (i ∷ [])
  one_in_turn from upto i later e placed others = record {
    each = λ j m. ⊎_elim (λ (s : i ≡ j). subst (IsPlacedIn leaves) s placed) (λ (n : ⊥). absurd n) m;
    apart = λ j m a among same.
        ⊎_elim (λ (s : i ≡ j). others a among (same ∙ sym (ap (λ (x : HeldInstance). x.declaration) s) ∙ e)) (λ (n : ⊥). n) m;
    high = λ j m.
        ⊎_elim (λ (s : i ≡ j). let same = ap (λ (x : HeldInstance). x.declaration) s in omega (arith, e, same, later)) (λ (n : ⊥). absurd n) m;
    turn = (omega (arith, e), tt);
  }

  both_in_turn : (from between upto : ℕ) (is js : List HeldInstance) → from ≤ between → between ≤ upto → AreInTurn leaves arrays from between is
      → AreInTurn leaves arrays between upto js → AreInTurn leaves arrays from upto (is ++ js)
  both_in_turn from between upto is js low high a b = record {
    each = λ i m. ⊎_elim (λ (l : In is i). a.each i l) (λ (r : In js i). b.each i r) (in_either is js i m);
    apart = λ i m. ⊎_elim (λ (l : In is i). a.apart i l) (λ (r : In js i). b.apart i r) (in_either is js i m);
    high = λ i m. ⊎_elim (λ (l : In is i). let lt = a.high i l in omega (arith, lt, high)) (λ (r : In js i). b.high i r) (in_either is js i m);
    turn = behind_joined from between is js low a.high a.turn b.turn;
  }

abbrev pub arrays_of : Scene → List LeafArray
arrays_of s = arrays_in_block s (behind_all_ports s.own.inside) s.own.inside.body

module _ (s : Scene) (none : s.own.start.scope ≡ []) where
  -- the leaves of a part stand behind as many as are declared before it, and no others are of its declarations
  abbrev Stand : Before → Before → List LeafDeclared → Type 0
  Stand before after ls =
      StandsAlone declaration_of (module_leaves s) (length before.declared) (length after.declared) (leaves_so_far (scope_before s before)) ls

  -- no others of its arrays are of its declarations
  abbrev ArraysStand : Before → Before → List LeafArray → Type 0
  ArraysStand before after xs =
      (b : ℕ) × StandsAlone array_declaration (arrays_of s) (length before.declared) (length after.declared) b xs

  -- what has no array is of no array's declaration
  none_alone : (from upto b : ℕ) → from < upto → StandsAlone array_declaration (arrays_of s) from upto b [] → (a : LeafArray) → In (arrays_of s) a
      → a.declaration ≡ from → ⊥
  none_alone from upto b later h a among e =
      ⊎_elim (λ (l : In h.front a). let below = h.low a l in absurd (omega (arith, below, e)))
      (λ (r : In h.after a). let above = h.high a r in absurd (omega (arith, above, e, later)))
      (in_either h.front h.after a (subst (λ xs. In xs a) h.is among))

  instance_in_turn : (p : Place) (n : PlacedName) (other : PlacedName) (before : Before)
      → Stand before (behind before (instance p n other)) (leaves_in s before (instance p n other))
      → ArraysStand before (behind before (instance p n other)) [] → AreInTurn (module_leaves s) (arrays_of s) (length before.declared) (length (behind before (instance p n other)).declared)
      (instances_of (leafed s.own.modules (driven_leaves s) before (instance p n other)))
  instance_in_turn p n other before alone arrays = by (numbered_module 0 s.own.modules other.name)
    where
      c : Component
      c = component.instance other.name

      d : Declared
      d = record { named = n; component = c; before = before }

      later : length before.declared < length (with_declaration before n c).declared
      later = omega (arith, length-append before.declared (declaration_at before n c ∷ []))

      by : (o : Option (ℕ × ModuleTree))
          → AreInTurn (module_leaves s) (arrays_of s) (length before.declared) (length (with_declaration before n c).declared)
          (instances_of (instance_block (scope_before s before) o))
      by None = none_in_turn (module_leaves s) (arrays_of s) (length before.declared) (length (with_declaration before n c).declared) [] refl
      by (Some child) =
          let scope = scope_before s before in
          let i : HeldInstance = record { declaration = length scope; module_number = child.0; first = leaves_so_far scope } in
          let place = instance_place n (numbered_module 0 s.own.modules other.name) in
          let is : length scope ≡ length before.declared = known_long s.own.modules before.declared in
          one_in_turn (module_leaves s) (arrays_of s) (length before.declared) (length (with_declaration before n c).declared) i later is
          (instance_placed (module_leaves s) (length before.declared) (length (with_declaration before n c).declared) (leaves_so_far scope)
          (leaves_in s before (instance p n other)) later alone i is refl (one_declares s before n c place instance_role)
          (instance_shows d place 0 (leaves_of_data (type_of_declared s d)) (held_by_declared s d)))
          (none_alone (length before.declared) (length (with_declaration before n c).declared) arrays.0 later arrays.1)

  -- a part behind another
  second_stands : (before next after : Before) (ls ms : List LeafDeclared) → length before.declared ≤ length next.declared
      → leaves_so_far (scope_before s before) + length ls ≡ leaves_so_far (scope_before s next)
      → IsRun declaration_of (length before.declared) (length next.declared) ls
      → Stand before after (ls ++ ms) → Stand next after ms
  second_stands before next after ls ms le many run alone =
      subst
      (λ b. StandsAlone declaration_of (module_leaves s) (length next.declared) (length after.declared) b ms) many
      (alone_second declaration_of (module_leaves s) (length before.declared) (length next.declared) (length after.declared)
      (leaves_so_far (scope_before s before)) ls ms le alone run)

  first_stands : (before next after : Before) (ls ms : List LeafDeclared) → length next.declared ≤ length after.declared
      → IsRun declaration_of (length next.declared) (length after.declared) ms
      → Stand before after (ls ++ ms) → Stand before next ls
  first_stands before next after ls ms le run alone =
      alone_first declaration_of (module_leaves s) (length before.declared) (length next.declared) (length after.declared)
      (leaves_so_far (scope_before s before)) ls ms le alone run

  second_arrays : (before next after : Before) (xs ys : List LeafArray) → length before.declared ≤ length next.declared
      → IsRun array_declaration (length before.declared) (length next.declared) xs
      → ArraysStand before after (xs ++ ys) → ArraysStand next after ys
  second_arrays before next after xs ys le run alone = (
    alone.0 + length xs,
    alone_second array_declaration (arrays_of s) (length before.declared) (length next.declared) (length after.declared) alone.0 xs ys le alone.1 run,
  )

  first_arrays : (before next after : Before) (xs ys : List LeafArray) → length next.declared ≤ length after.declared
      → IsRun array_declaration (length next.declared) (length after.declared) ys
      → ArraysStand before after (xs ++ ys) → ArraysStand before next xs
  first_arrays before next after xs ys le run alone = (
    alone.0,
    alone_first array_declaration (arrays_of s) (length before.declared) (length next.declared) (length after.declared) alone.0 xs ys le alone.1 run,
  )

  -- a statement that holds no instance
  drives_only : (before : Before) (x : Statement) → all_held_in 0 (leafed s.own.modules (driven_leaves s) before x) ≡ []
      → AreInTurn (module_leaves s) (arrays_of s) (length before.declared) (length (behind before x).declared)
      (instances_of (leafed s.own.modules (driven_leaves s) before x))
  drives_only before x e =
      let b = leafed s.own.modules (driven_leaves s) before x in
      none_in_turn (module_leaves s) (arrays_of s) (length before.declared) (length (behind before x).declared) (instances_of b) (none_held b e)

  mutual
    statement_in_turn : (x : Statement) (before : Before) → Stand before (behind before x) (leaves_in s before x) → ArraysStand before (behind before x) (arrays_in s before x)
        → AreInTurn (module_leaves s) (arrays_of s) (length before.declared) (length (behind before x).declared)
        (instances_of (leafed s.own.modules (driven_leaves s) before x))
    statement_in_turn (instance p n other) before alone arrays = instance_in_turn p n other before alone arrays
    statement_in_turn (when p c a b) before alone arrays =
        let first = opened before in
        let inside = behind_block first a in
        let second = reopened before inside in
        let after = behind_block second b in
        let one = instances_of (leafed_all s.own.modules (driven_leaves s) first a) in
        let other = instances_of (leafed_all s.own.modules (driven_leaves s) second b) in
        let ls = leaves_in_block s first a in
        let ms = leaves_in_block s second b in
        let xs = arrays_in_block s first a in
        let ys = arrays_in_block s second b in
        subst (AreInTurn (module_leaves s) (arrays_of s) (length before.declared) (length after.declared)) (sym (append-nil (one ++ other)))
        (both_in_turn (module_leaves s) (arrays_of s) (length before.declared) (length inside.declared) (length after.declared) one other
        (longer_block first a) (longer_block second b)
        (block_in_turn a first (first_stands first inside after ls ms (longer_block second b) (block_run s b second) alone)
        (first_arrays first inside after xs ys (longer_block second b) (array_block_run s b second) arrays))
        (block_in_turn b second
        (second_stands first second after ls ms (longer_block first a) (block_counted s none a first).leaves (block_run s a first) alone)
        (second_arrays first second after xs ys (longer_block first a) (array_block_run s a first) arrays)))
    statement_in_turn (connect p d e) before alone arrays =
        let scope = scope_before s before in
        drives_only before (connect p d e)
        (pairs_none 0 p (sides scope d e) (leaf_pairs (target_of scope d).data_type (type_where (expression_type scope e).has)))
    statement_in_turn (partial_connect p d e) before alone arrays =
        let scope = scope_before s before in
        drives_only before (partial_connect p d e)
        (pairs_none 0 p (sides scope d e) (partial_leaf_pairs (target_of scope d).data_type (type_where (expression_type scope e).has)))
    statement_in_turn (invalid p d) before alone arrays =
        let r = target_of (scope_before s before) d in
        drives_only before (invalid p d) (invalid_none (driven_leaves s) 0 p r 0 (leaf_count r.data_type))
    statement_in_turn (wire p n begins t) before alone arrays = none_in_turn (module_leaves s) (arrays_of s) (length before.declared) _ [] refl
    statement_in_turn (register p n begins t c r) before alone arrays = none_in_turn (module_leaves s) (arrays_of s) (length before.declared) _ [] refl
    statement_in_turn (node p n e) before alone arrays = none_in_turn (module_leaves s) (arrays_of s) (length before.declared) _ [] refl
    statement_in_turn (memory p n parts) before alone arrays = none_in_turn (module_leaves s) (arrays_of s) (length before.declared) _ [] refl
    statement_in_turn (skip p) before alone arrays = none_in_turn (module_leaves s) (arrays_of s) (length before.declared) _ [] refl

    block_in_turn : (b : Block) (before : Before) → Stand before (behind_block before b) (leaves_in_block s before b)
        → ArraysStand before (behind_block before b) (arrays_in_block s before b)
        → AreInTurn (module_leaves s) (arrays_of s) (length before.declared) (length (behind_block before b).declared)
        (instances_of (leafed_all s.own.modules (driven_leaves s) before b))
    block_in_turn done before alone arrays = none_in_turn (module_leaves s) (arrays_of s) (length before.declared) _ [] refl
    block_in_turn ((then) x b) before alone arrays =
        let next = behind before x in
        let after = behind_block next b in
        let one = leafed s.own.modules (driven_leaves s) before x in
        let other = leafed_all s.own.modules (driven_leaves s) next b in
        let ls = leaves_in s before x in
        let ms = leaves_in_block s next b in
        let xs = arrays_in s before x in
        let ys = arrays_in_block s next b in
        subst (AreInTurn (module_leaves s) (arrays_of s) (length before.declared) (length after.declared)) (sym (instances_joined one other))
        (both_in_turn (module_leaves s) (arrays_of s) (length before.declared) (length next.declared) (length after.declared) (instances_of one)
        (instances_of other) (longer_statement before x) (longer_block next b)
        (statement_in_turn x before (first_stands before next after ls ms (longer_block next b) (block_run s b next) alone)
        (first_arrays before next after xs ys (longer_block next b) (array_block_run s b next) arrays))
        (block_in_turn b next
        (second_stands before next after ls ms (longer_statement before x) (statement_counted s none x before).leaves (statement_run s x before) alone)
        (second_arrays before next after xs ys (longer_statement before x) (array_statement_run s x before) arrays)))

  -- all of the module
  pub instances_in_turn : AreInTurn (module_leaves s) (arrays_of s) (length (behind_all_ports s.own.inside).declared) (length (declarations s.own.inside))
      (instances_of (leafed_module s).body)
  instances_in_turn =
      let head = behind_all_ports s.own.inside in
      let ports = leaves_of_ports s at_head s.own.inside.ports in
      let others = leaves_in_block s head s.own.inside.body in
      block_in_turn s.own.inside.body head
      (record {
        front = ports;
        after = [];
        is = ap (λ ls. ports ++ ls) (sym (append-nil others));
        long = sym (port_far s);
        low = (ports_run s s.own.inside.ports at_head).high;
        high = λ x j. absurd j;
      }) (
        0,
        record { front = []; after = []; is = sym (append-nil (arrays_of s)); long = refl; low = λ a j. absurd j; high = λ a j. absurd j },
      )

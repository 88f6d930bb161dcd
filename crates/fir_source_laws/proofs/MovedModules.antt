-- What a module stores at one path it stores at another.
use Rattle.std.proofs.Common.{◌≡◌, ℕ, List, [], ◌∷◌, ◌++◌, Bool, true, false, not, if◌then◌else◌, Option, Some, None, refl, sym, ap, ap₂, ◌∙◌, append_assoc}
use Rattle.std.specs.Str.{bytes_eq}
use Rattle.std.proofs.lemmas.List.{append-nil, append_cancel_left}
use Rattle.std.proofs.Math.Path.{fun_ext}
use Rattle.fir_bits.specs.Operators.{no_operand}
use Rattle.fir_base.proofs.SameNames.{name_apart, name_is}
use Rattle.fir_ast.specs.Expressions.{Expression}
use Rattle.fir_ast.specs.Statements.{SinkReference, Statement, wire, register, node, instance, memory, when, connect, partial_connect, invalid, skip, Block, done, then}
use Rattle.fir_meaning.specs.ConnectPairs.{Pair, pairs, partial_pairs}
use Rattle.fir_meaning.specs.LeafPaths.{LeafPath, Step, element, named}
use Rattle.fir_meaning.specs.TypeGroup.{scope_at}
use Rattle.fir_meaning.specs.TypeLeaves.{TypeLeaf, type_leaves}
use Rattle.fir_meaning.specs.TypedScopes.{TypedScope}
use Rattle.fir_meaning.specs.Values.{fit}
use Rattle.fir_meaning.specs.Visibility.{Before, behind, behind_block, opened, reopened}
use Rattle.fir_meaning.specs.PathStores.{DesignStore, kept_at}
use Rattle.fir_meaning.specs.CountedWhens.{counts}
use Rattle.fir_meaning.specs.ModuleScenes.{Scene, behind_all_ports}
use Rattle.fir_meaning.specs.TreeAims.{Aim}
use Rattle.fir_meaning.specs.SamePaths.{may_be_driven, same_path}
use Rattle.fir_meaning.specs.TreeValues.{TypesByPath, ValuesByPath, aim_of, aim_read, aim_value, leaf_where, value}
use Rattle.fir_meaning.specs.SourceDesigns.{Instances, SourceDesign, held, made_of, no_instances}
use Rattle.fir_meaning.specs.SourceFacts.{source_depth, source_may_drive}
use Rattle.fir_meaning.specs.SourceStores.{Gifts, below, clock_gifts, clock_where, exec_design, exec_instances, exec_source, exec_source_all, number_gifts, source_invalid, source_kept, source_pair, source_pairs}
use Rattle.fir_source_laws.specs.working.PlaceLaws.{AreSameBelow, ModulesMeanOneThing}
use Rattle.fir_source_laws.specs.working.SparedLeaves.{driven, gift, is_one, pairs_between}
use Rattle.fir_source_laws.specs.working.TreeStatements.{IsBelow}
use Rattle.fir_source_laws.proofs.InstanceStores.{design_spares}
use Rattle.fir_source_laws.proofs.LeafTests.{step_same}
use Rattle.fir_source_laws.proofs.SparedStores.{pair_kept}

-- one path in front of two changes no test of them
front_same : (p y x : LeafPath) → same_path (p ++ y) (p ++ x) ≡ same_path y x
front_same [] y x = refl
front_same (s ∷ p) y x = rw (step_same s) (front_same p y x)

-- the statements of one module at two paths, with the same types, values and gifts in the module
module _ {V : Type 0} (s : Scene) (holds : TypesByPath) (env : ValuesByPath) (gifts : Gifts V) (one two : LeafPath)
    (child others : List ℕ → DesignStore V → DesignStore V)
    (moved : (name : List ℕ) (store other : DesignStore V) → AreSameBelow one two store other → AreSameBelow one two (child name store) (others name other))
  where
    moved_kept : (o : Option LeafPath) (give : LeafPath → V) (taken : List Bool) (store other : DesignStore V) → AreSameBelow one two store other
        → AreSameBelow one two (source_kept s holds env gifts one child o give taken store) (source_kept s holds env gifts two others o give taken other)
    moved_kept None give taken store other h x = h x
    moved_kept (Some y) give taken store other h x = by (counts (source_depth s y) taken)
      where
        by : (counted : Bool)
            → (if counted then kept_at (one ++ y) (give y) store else store) (one ++ x) ≡ (if counted then kept_at (two ++ y) (give y) other else other) (two ++ x)
        by false = h x
        by true = rw (front_same one y x, front_same two y x) (ap (λ o. if same_path y x then Some (give y) else o) (h x))

    moved_pairs : (scope : TypedScope) (sink : SinkReference) (e : Expression) (taken : List Bool) (ps : List Pair) (store other : DesignStore V)
        → AreSameBelow one two store other
        → AreSameBelow one two (source_pairs s holds env gifts one child scope sink e taken ps store)
        (source_pairs s holds env gifts two others scope sink e taken ps other)
    moved_pairs scope sink e taken [] store other h = h
    moved_pairs scope sink e taken (p ∷ ps) store other h =
        moved_pairs scope sink e taken ps (source_pair s holds env gifts one child scope sink e taken p store)
        (source_pair s holds env gifts two others scope sink e taken p other)
        (λ x. rw (pair_kept s holds env gifts one child scope sink e taken p store, pair_kept s holds env gifts two others scope sink e taken p other)
        (moved_kept (driven holds env scope sink e p) (gift gifts scope sink e p) taken store other h x))

    moved_named : (a : Aim) (taken : List Bool) (ls : List TypeLeaf) (store other : DesignStore V) → AreSameBelow one two store other
        → AreSameBelow one two (source_invalid s holds env gifts one child a taken ls store) (source_invalid s holds env gifts two others a taken ls other)
    moved_named a taken [] store other h = h
    moved_named a taken (l ∷ ls) store other h = moved_named a taken ls _ _ (by (may_be_driven (source_may_drive s) (leaf_where a.first l.path)))
      where
        by : (may : Bool)
            → AreSameBelow one two (if may then source_kept s holds env gifts one child (leaf_where a.at l.path) gifts.of_invalid taken store else store)
            (if may then source_kept s holds env gifts two others (leaf_where a.at l.path) gifts.of_invalid taken other else other)
        by true = moved_kept (leaf_where a.at l.path) gifts.of_invalid taken store other h
        by false = h

    mutual
      moved_statement : (y : Statement) (before : Before) (taken : List Bool) (store other : DesignStore V) → AreSameBelow one two store other
          → AreSameBelow one two (exec_source s holds env gifts one child before y taken store) (exec_source s holds env gifts two others before y taken other)
      moved_statement (connect p sink e) before taken store other h =
          moved_pairs (scope_at s.own.modules before) sink e taken (pairs_between holds env pairs (scope_at s.own.modules before) sink e) store other h
      moved_statement (partial_connect p sink e) before taken store other h =
          moved_pairs (scope_at s.own.modules before) sink e taken (pairs_between holds env partial_pairs (scope_at s.own.modules before) sink e) store other h
      moved_statement (invalid p sink) before taken store other h =
          let a = aim_of (scope_at s.own.modules before) holds env sink in moved_named a taken (type_leaves a.data_type) store other h
      moved_statement (when p c a b) before taken store other h =
          let high = is_one holds env (scope_at s.own.modules before) c in
          moved_block b (reopened before (behind_block (opened before) a)) (taken ++ not high ∷ [])
          (exec_source_all s holds env gifts one child (opened before) a (taken ++ high ∷ []) store)
          (exec_source_all s holds env gifts two others (opened before) a (taken ++ high ∷ []) other)
          (moved_block a (opened before) (taken ++ high ∷ []) store other h)
      moved_statement (instance p n m) before taken store other h = moved n.name store other h
      moved_statement (wire p n begins t) before taken store other h = h
      moved_statement (register p n begins t c r) before taken store other h = h
      moved_statement (node p n e) before taken store other h = h
      moved_statement (memory p n parts) before taken store other h = h
      moved_statement (skip p) before taken store other h = h

      pub moved_block : (b : Block) (before : Before) (taken : List Bool) (store other : DesignStore V) → AreSameBelow one two store other
          → AreSameBelow one two (exec_source_all s holds env gifts one child before b taken store)
          (exec_source_all s holds env gifts two others before b taken other)
      moved_block done before taken store other h = h
      moved_block ((then) y b) before taken store other h =
          moved_block b (behind before y) taken (exec_source s holds env gifts one child before y taken store)
          (exec_source s holds env gifts two others before y taken other) (moved_statement y before taken store other h)

-- what is seen below two paths is the same
module _ {V : Type 0} (holds types : TypesByPath) (env values : ValuesByPath) (gifts others : LeafPath → Gifts V) where
  pub record AreAlike (one two : LeafPath) : Type 0 where
    pub types_same : AreSameBelow one two holds types
    pub values_same : AreSameBelow one two env values
    pub gifts_same : AreSameBelow one two gifts others

  alike_inside : (one two : LeafPath) (n : Step) → AreAlike one two → AreAlike (one ++ n ∷ []) (two ++ n ∷ [])
  alike_inside one two n h = record {
    types_same = λ x. ap holds (append_assoc one (n ∷ []) x) ∙ h.types_same (n ∷ x) ∙ ap types (sym (append_assoc two (n ∷ []) x));
    values_same = λ x. ap env (append_assoc one (n ∷ []) x) ∙ h.values_same (n ∷ x) ∙ ap values (sym (append_assoc two (n ∷ []) x));
    gifts_same = λ x. ap gifts (append_assoc one (n ∷ []) x) ∙ h.gifts_same (n ∷ x) ∙ ap others (sym (append_assoc two (n ∷ []) x));
  }

  -- the design of an instance stores elsewhere nothing
  module _ (one two : LeafPath) (n : List ℕ) (d : SourceDesign) (store other : DesignStore V) (h : AreSameBelow one two store other)
      (inside : AreSameBelow (one ++ named n ∷ []) (two ++ named n ∷ []) (exec_design holds env gifts (one ++ named n ∷ []) d store)
      (exec_design types values others (two ++ named n ∷ []) d other)) where
    apart : (at x : LeafPath) → ((rest : LeafPath) → x ≡ named n ∷ rest → ⊥) → IsBelow (at ++ named n ∷ []) (at ++ x) → ⊥
    apart at x off b = off b.0 (append_cancel_left at x (named n ∷ b.0) (b.1 ∙ append_assoc at (named n ∷ []) b.0))

    spared_both : (x : LeafPath) → ((rest : LeafPath) → x ≡ named n ∷ rest → ⊥)
        → exec_design holds env gifts (one ++ named n ∷ []) d store (one ++ x)
        ≡ exec_design types values others (two ++ named n ∷ []) d other (two ++ x)
    spared_both x off =
        design_spares holds env gifts (one ++ x) (one ++ named n ∷ []) d store (apart one x off) ∙ h x
        ∙ sym (design_spares types values others (two ++ x) (two ++ named n ∷ []) d other (apart two x off))

    pub moved_outside : AreSameBelow one two (exec_design holds env gifts (one ++ named n ∷ []) d store)
        (exec_design types values others (two ++ named n ∷ []) d other)
    moved_outside [] = spared_both [] (λ rest e. cc)
    moved_outside (element i ∷ r) = spared_both (element i ∷ r) (λ rest e. cc)
    moved_outside (named m ∷ r) = by (bytes_eq m n) refl
      where
        by : (is_so : Bool) → bytes_eq m n ≡ is_so
            → exec_design holds env gifts (one ++ named n ∷ []) d store (one ++ named m ∷ r)
            ≡ exec_design types values others (two ++ named n ∷ []) d other (two ++ named m ∷ r)
        by false t = spared_both (named m ∷ r) (λ rest e. let same : m ≡ n = cc in name_apart m n t same)
        by true t =
            rw (name_is m n t)
            (ap (exec_design holds env gifts (one ++ named n ∷ []) d store) (sym (append_assoc one (named n ∷ []) r)) ∙ inside r
            ∙ ap (exec_design types values others (two ++ named n ∷ []) d other) (append_assoc two (named n ∷ []) r))

  chosen_both : (b : Bool) (one two : LeafPath) (p q r t : DesignStore V) → AreSameBelow one two p r → AreSameBelow one two q t
      → AreSameBelow one two (if b then p else q) (if b then r else t)
  chosen_both true one two p q r t h k = h
  chosen_both false one two p q r t h k = k

  mutual
    pub moved_design : (d : SourceDesign) (one two : LeafPath) (store other : DesignStore V) → AreAlike one two → AreSameBelow one two store other
        → AreSameBelow one two (exec_design holds env gifts one d store) (exec_design types values others two d other)
    moved_design (made_of s is) one two store other alike h x =
        let now : gifts one ≡ others two = ap gifts (sym (append-nil one)) ∙ alike.gifts_same [] ∙ ap others (append-nil two) in
        let same_types : below one holds ≡ below two types = fun_ext alike.types_same in
        let same_values : below one env ≡ below two values = fun_ext alike.values_same in
        let body = s.own.inside.body in
        let head = behind_all_ports s.own.inside in
        let child = exec_instances holds env gifts one is in
        ap (λ t. exec_source_all s t (below one env) (gifts one) one child head body [] store (one ++ x)) same_types
        ∙ ap (λ v. exec_source_all s (below two types) v (gifts one) one child head body [] store (one ++ x)) same_values
        ∙ ap (λ g. exec_source_all s (below two types) (below two values) g one child head body [] store (one ++ x)) now
        ∙ moved_block s (below two types) (below two values) (others two) one two child (exec_instances types values others two is)
        (λ name a b e. moved_instances is name one two a b alike e) body head [] store other h x

    moved_instances : (is : Instances) (name : List ℕ) (one two : LeafPath) (store other : DesignStore V) → AreAlike one two → AreSameBelow one two store other
        → AreSameBelow one two (exec_instances holds env gifts one is name store) (exec_instances types values others two is name other)
    moved_instances no_instances name one two store other alike h = h
    moved_instances (held y d rest) name one two store other alike h =
        chosen_both (bytes_eq y name) one two (exec_design holds env gifts (one ++ named y ∷ []) d store) (exec_instances holds env gifts one rest name store)
        (exec_design types values others (two ++ named y ∷ []) d other) (exec_instances types values others two rest name other)
        (moved_outside one two y d store other h
        (moved_design d (one ++ named y ∷ []) (two ++ named y ∷ []) store other (alike_inside one two (named y) alike)
        (λ x. ap store (append_assoc one (named y ∷ []) x) ∙ h (named y ∷ x) ∙ ap other (sym (append_assoc two (named y ∷ []) x)))))
        (moved_instances rest name one two store other alike h)

-- what is below a path within is below the longer path
same_longer : {A : Type 0} (one two inner : LeafPath) (f g : LeafPath → A) → AreSameBelow one two f g → below (one ++ inner) f ≡ below (two ++ inner) g
same_longer one two inner f g h = fun_ext (λ x. ap f (append_assoc one inner x) ∙ h (inner ++ x) ∙ ap g (sym (append_assoc two inner x)))

-- the gifts of a module, told by what is below its path
abbrev numbers_of : TypesByPath → ValuesByPath → Gifts ℕ
numbers_of holds env = record {
  of_expression = λ scope e q x. fit (value scope holds env e q) (holds x);
  of_sink = λ scope sink q x. fit (aim_value holds env (aim_of scope holds env sink) q) (holds x);
  of_invalid = λ x. fit no_operand (holds x);
}

abbrev clocks_of : TypesByPath → ValuesByPath → (LeafPath → Option ℕ) → Gifts (Option ℕ)
clocks_of holds env clocks = record {
  of_expression = λ scope e q x. clock_where clocks (leaf_where (aim_read scope holds env e) q);
  of_sink = λ scope sink q x. clock_where clocks (leaf_where (aim_of scope holds env sink).at q);
  of_invalid = λ x. None;
}

pub modules_mean_one_thing : ModulesMeanOneThing
modules_mean_one_thing d one two holds types env values h e = (
  λ store other same.
      moved_design holds types env values (number_gifts holds env) (number_gifts types values) d one two store other
      (record {
        types_same = h;
        values_same = e;
        gifts_same = λ inner. ap₂ numbers_of (same_longer one two inner holds types h) (same_longer one two inner env values e);
      }) same,
  λ clocks others store other c same.
      moved_design holds types env values (clock_gifts holds env clocks) (clock_gifts types values others) d one two store other
      (record {
        types_same = h;
        values_same = e;
        gifts_same = λ inner.
            ap₂ (λ t v. clocks_of t v (below (one ++ inner) clocks)) (same_longer one two inner holds types h) (same_longer one two inner env values e)
            ∙ ap (clocks_of (below (two ++ inner) types) (below (two ++ inner) values)) (same_longer one two inner clocks others c);
      }) same,
)

-- What the blocks of a when store at a leaf that is declared outside of it, or inside.
use Rattle.std.proofs.Common.{◌≡◌, ℕ, zero, suc, ◌≤◌, List, [], ◌∷◌, ◌++◌, length, Bool, true, false, not, if◌then◌else◌, Option, Some, None, refl, sym, ap, ◌∙◌, arith, append_assoc, inl}
use Rattle.std.proofs.lemmas.List.{append-nil, append_cancel_left}
use Rattle.fir_base.specs.Lists.{In}
use Rattle.fir_base.proofs.Members.{in_left, in_right}
use Rattle.fir_ast.specs.Expressions.{Expression}
use Rattle.fir_ast.specs.Statements.{SinkReference, Statement, wire, register, node, instance, memory, when, connect, partial_connect, invalid, skip, Block, done, then}
use Rattle.fir_meaning.specs.ConnectPairs.{Pair, pairs, partial_pairs}
use Rattle.fir_meaning.specs.LeafPaths.{LeafPath}
use Rattle.fir_meaning.specs.TypeGroup.{scope_at}
use Rattle.fir_meaning.specs.TypeLeaves.{TypeLeaf, type_leaves}
use Rattle.fir_meaning.specs.TypedScopes.{TypedScope}
use Rattle.fir_meaning.specs.Visibility.{Before, opened, reopened, behind, behind_block}
use Rattle.fir_meaning.specs.PathStores.{DesignStore, kept_at}
use Rattle.fir_meaning.specs.CountedWhens.{all_true, counts}
use Rattle.fir_meaning.specs.ModuleScenes.{Scene}
use Rattle.fir_meaning.specs.TreeAims.{Aim}
use Rattle.fir_meaning.specs.SamePaths.{may_be_driven, same_path}
use Rattle.fir_meaning.specs.TreeValues.{TypesByPath, ValuesByPath, aim_of, leaf_where}
use Rattle.fir_meaning.specs.SourceDesigns.{InstanceOf, instances_of, instances_of_block}
use Rattle.fir_meaning.specs.SourceFacts.{source_depth, source_may_drive}
use Rattle.fir_meaning.specs.SourceStores.{Gifts, exec_source, exec_source_all, source_invalid, source_kept, source_pair, source_pairs}
use Rattle.fir_source_laws.specs.working.SparedLeaves.{SparedBy, Spares, SparesAll, SparesAt, driven, gift, is_one, pairs_between}
use Rattle.fir_source_laws.proofs.LeafTests.{leaf_is}
use Rattle.fir_source_laws.proofs.SparedStores.{pair_kept}

-- two lists of whens that a leaf of a depth counts alike, and go on doing so
pub record CountAlike (depth : ℕ) (one other : List Bool) : Type 0 where
  pub alike : (more : List Bool) → counts depth (one ++ more) ≡ counts depth (other ++ more)

-- and one that has a when which it counts, and that is not taken
pub record IsBlocked (depth : ℕ) (taken : List Bool) : Type 0 where
  pub blocked : (more : List Bool) → counts depth (taken ++ more) ≡ false

longer_alike : (depth : ℕ) (one other : List Bool) (b : Bool) → CountAlike depth one other → CountAlike depth (one ++ b ∷ []) (other ++ b ∷ [])
longer_alike depth one other b h = record {
  alike = λ more. rw (append_assoc one (b ∷ []) more, append_assoc other (b ∷ []) more) (h.alike (b ∷ more));
}

longer_blocked : (depth : ℕ) (taken : List Bool) (b : Bool) → IsBlocked depth taken → IsBlocked depth (taken ++ b ∷ [])
longer_blocked depth taken b h = record { blocked = λ more. rw (append_assoc taken (b ∷ []) more) (h.blocked (b ∷ more)) }

now_alike : (depth : ℕ) (one other : List Bool) → CountAlike depth one other → counts depth one ≡ counts depth other
now_alike depth one other h = ap (counts depth) (sym (append-nil one)) ∙ h.alike [] ∙ ap (counts depth) (append-nil other)

now_blocked : (depth : ℕ) (taken : List Bool) → IsBlocked depth taken → counts depth taken ≡ false
now_blocked depth taken h = ap (counts depth) (sym (append-nil taken)) ∙ h.blocked []

-- a when that is taken counts as none, and one that is not blocks
pub taken_alike : (depth : ℕ) (taken : List Bool) → depth ≤ length taken → CountAlike depth (taken ++ true ∷ []) taken
taken_alike depth taken h = record { alike = λ more. rw (append_assoc taken (true ∷ []) more) (by depth taken more h) }
  where
    all_with : (taken more : List Bool) → all_true (taken ++ true ∷ more) ≡ all_true (taken ++ more)
    all_with [] more = refl
    all_with (true ∷ bs) more = all_with bs more
    all_with (false ∷ bs) more = refl

    by : (depth : ℕ) (taken more : List Bool) → depth ≤ length taken → counts depth (taken ++ true ∷ more) ≡ counts depth (taken ++ more)
    by zero taken more h = all_with taken more
    by (suc n) [] more h = absurd (omega (arith, h))
    by (suc n) (b ∷ bs) more h = by n bs more (omega (arith, h))

pub untaken_blocked : (depth : ℕ) (taken : List Bool) → depth ≤ length taken → IsBlocked depth (taken ++ false ∷ [])
untaken_blocked depth taken h = record { blocked = λ more. rw (append_assoc taken (false ∷ []) more) (by depth taken more h) }
  where
    all_with : (taken more : List Bool) → all_true (taken ++ false ∷ more) ≡ false
    all_with [] more = refl
    all_with (true ∷ bs) more = all_with bs more
    all_with (false ∷ bs) more = refl

    by : (depth : ℕ) (taken more : List Bool) → depth ≤ length taken → counts depth (taken ++ false ∷ more) ≡ false
    by zero taken more h = all_with taken more
    by (suc n) [] more h = absurd (omega (arith, h))
    by (suc n) (b ∷ bs) more h = by n bs more (omega (arith, h))

-- the whens round a declaration count for nothing
pub outer_alike : (depth : ℕ) (outer other inner : List Bool) → length outer ≤ depth → length other ≡ length outer
    → CountAlike depth (outer ++ inner) (other ++ inner)
outer_alike depth outer other inner h e = record {
  alike = λ more. rw (append_assoc outer inner more, append_assoc other inner more) (by depth outer other (inner ++ more) h e);
}
  where
    by : (depth : ℕ) (outer other more : List Bool) → length outer ≤ depth → length other ≡ length outer
        → counts depth (outer ++ more) ≡ counts depth (other ++ more)
    by depth [] [] more h e = refl
    by depth [] (b ∷ bs) more h e = absurd (omega (arith, e))
    by depth (b ∷ bs) [] more h e = absurd (omega (arith, e))
    by zero (b ∷ bs) (d ∷ ds) more h e = absurd (omega (arith, h))
    by (suc n) (b ∷ bs) (d ∷ ds) more h e = by n bs ds more (omega (arith, h)) (omega (arith, e))

module _ {V : Type 0} (s : Scene) (holds : TypesByPath) (env : ValuesByPath) (path : LeafPath)
    (child : List ℕ → DesignStore V → DesignStore V) (x : LeafPath) where
  blocked_at : (taken : List Bool) (o : Option LeafPath) → IsBlocked (source_depth s x) taken
      → SparesAt s holds env path (path ++ x) taken o
  blocked_at taken None h = tt
  blocked_at taken (Some y) h = λ same.
      let here : y ≡ x = append_cancel_left path y x same in
      ap (λ z. counts (source_depth s z) taken) here ∙ now_blocked (source_depth s x) taken h

  mutual
    blocked_statement : (y : Statement) (before : Before) (taken : List Bool) → IsBlocked (source_depth s x) taken
        → ((i : InstanceOf) → In (instances_of y) i → SparedBy child (path ++ x) i.named.name)
        → Spares s holds env path (path ++ x) (SparedBy child (path ++ x)) before y taken
    blocked_statement (connect p sink e) before taken h spared =
        λ pair m. blocked_at taken (driven holds env (scope_at s.own.modules before) sink e pair) h
    blocked_statement (partial_connect p sink e) before taken h spared =
        λ pair m. blocked_at taken (driven holds env (scope_at s.own.modules before) sink e pair) h
    blocked_statement (invalid p sink) before taken h spared =
        λ l m may. blocked_at taken (leaf_where (aim_of (scope_at s.own.modules before) holds env sink).at l.path) h
    blocked_statement (when p c a b) before taken h spared =
        let high = is_one holds env (scope_at s.own.modules before) c in (
          blocked_block a (opened before) (taken ++ high ∷ []) (longer_blocked (source_depth s x) taken high h)
              (λ i m. spared i (in_left (instances_of_block a) (instances_of_block b) i m)),
          blocked_block b (reopened before (behind_block (opened before) a)) (taken ++ not high ∷ [])
              (longer_blocked (source_depth s x) taken (not high) h)
              (λ i m. spared i (in_right (instances_of_block a) (instances_of_block b) i m)),
        )
    blocked_statement (instance p n other) before taken h spared = spared (record { named = n; other = other }) (inl refl)
    blocked_statement (wire p n begins t) before taken h spared = tt
    blocked_statement (register p n begins t c r) before taken h spared = tt
    blocked_statement (node p n e) before taken h spared = tt
    blocked_statement (memory p n parts) before taken h spared = tt
    blocked_statement (skip p) before taken h spared = tt

    pub blocked_block : (b : Block) (before : Before) (taken : List Bool) → IsBlocked (source_depth s x) taken
        → ((i : InstanceOf) → In (instances_of_block b) i → SparedBy child (path ++ x) i.named.name)
        → SparesAll s holds env path (path ++ x) (SparedBy child (path ++ x)) before b taken
    blocked_block done before taken h spared = tt
    blocked_block ((then) y b) before taken h spared = (
      blocked_statement y before taken h (λ i m. spared i (in_left (instances_of y) (instances_of_block b) i m)),
      blocked_block b (behind before y) taken h (λ i m. spared i (in_right (instances_of y) (instances_of_block b) i m)),
    )

module _ {V : Type 0} (s : Scene) (holds : TypesByPath) (env : ValuesByPath) (gifts : Gifts V) (path : LeafPath)
    (child : List ℕ → DesignStore V → DesignStore V) (x : LeafPath) where
  -- two lists of whens that the leaf counts alike
  abbrev pub AlikeAt : List Bool → List Bool → Type 0
  AlikeAt taken others = (y : LeafPath) → path ++ y ≡ x → CountAlike (source_depth s y) taken others

  -- at the leaf an instance tells by what was there
  abbrev pub TellsAt : List ℕ → Type 0
  TellsAt name = (one other : DesignStore V) → one x ≡ other x → child name one x ≡ child name other x

  alike_kept : (o : Option LeafPath) (give : LeafPath → V) (taken others : List Bool) (one other : DesignStore V)
      → AlikeAt taken others → one x ≡ other x
      → source_kept s holds env gifts path child o give taken one x ≡ source_kept s holds env gifts path child o give others other x
  alike_kept None give taken others one other h e = e
  alike_kept (Some y) give taken others one other h e =
      by (same_path (path ++ y) x) (counts (source_depth s y) taken) (counts (source_depth s y) others) refl refl refl
    where
      counted : same_path (path ++ y) x ≡ true → counts (source_depth s y) taken ≡ counts (source_depth s y) others
      counted t = now_alike (source_depth s y) taken others (h y (leaf_is (path ++ y) x t))

      by : (t a b : Bool) → same_path (path ++ y) x ≡ t → counts (source_depth s y) taken ≡ a → counts (source_depth s y) others ≡ b
          → (if a then kept_at (path ++ y) (give y) one else one) x ≡ (if b then kept_at (path ++ y) (give y) other else other) x
      by true true true same p q = rw same refl
      by true false false same p q = e
      by true true false same p q = let no = counted same in absurd (cc)
      by true false true same p q = let no = counted same in absurd (cc)
      by false true true same p q = rw same e
      by false true false same p q = rw same e
      by false false true same p q = rw same e
      by false false false same p q = e

  alike_pairs : (scope : TypedScope) (sink : SinkReference) (c : Expression) (ps : List Pair) (taken others : List Bool) (one other : DesignStore V)
      → AlikeAt taken others → one x ≡ other x
      → source_pairs s holds env gifts path child scope sink c taken ps one x
      ≡ source_pairs s holds env gifts path child scope sink c others ps other x
  alike_pairs scope sink c [] taken others one other h e = e
  alike_pairs scope sink c (p ∷ ps) taken others one other h e =
      alike_pairs scope sink c ps taken others (source_pair s holds env gifts path child scope sink c taken p one)
      (source_pair s holds env gifts path child scope sink c others p other) h
      (rw (pair_kept s holds env gifts path child scope sink c taken p one, pair_kept s holds env gifts path child scope sink c others p other)
      (alike_kept (driven holds env scope sink c p) (gift gifts scope sink c p) taken others one other h e))

  alike_named : (a : Aim) (ls : List TypeLeaf) (taken others : List Bool) (one other : DesignStore V)
      → AlikeAt taken others → one x ≡ other x
      → source_invalid s holds env gifts path child a taken ls one x ≡ source_invalid s holds env gifts path child a others ls other x
  alike_named a [] taken others one other h e = e
  alike_named a (l ∷ ls) taken others one other h e =
      alike_named a ls taken others _ _ h (by (may_be_driven (source_may_drive s) (leaf_where a.first l.path)))
    where
      by : (may : Bool)
          → (if may then source_kept s holds env gifts path child (leaf_where a.at l.path) gifts.of_invalid taken one else one) x
          ≡ (if may then source_kept s holds env gifts path child (leaf_where a.at l.path) gifts.of_invalid others other else other) x
      by true = alike_kept (leaf_where a.at l.path) gifts.of_invalid taken others one other h e
      by false = e

  mutual
    alike_statement : (y : Statement) (before : Before) (taken others : List Bool) (one other : DesignStore V)
        → AlikeAt taken others → one x ≡ other x
        → ((i : InstanceOf) → In (instances_of y) i → TellsAt i.named.name)
        → exec_source s holds env gifts path child before y taken one x ≡ exec_source s holds env gifts path child before y others other x
    alike_statement (connect p sink c) before taken others one other h e tells =
        alike_pairs (scope_at s.own.modules before) sink c (pairs_between holds env pairs (scope_at s.own.modules before) sink c) taken others one other h e
    alike_statement (partial_connect p sink c) before taken others one other h e tells =
        alike_pairs (scope_at s.own.modules before) sink c (pairs_between holds env partial_pairs (scope_at s.own.modules before) sink c)
        taken others one other h e
    alike_statement (invalid p sink) before taken others one other h e tells =
        let a = aim_of (scope_at s.own.modules before) holds env sink in
        alike_named a (type_leaves a.data_type) taken others one other h e
    alike_statement (when p c a b) before taken others one other h e tells =
        let high = is_one holds env (scope_at s.own.modules before) c in
        alike_block b (reopened before (behind_block (opened before) a)) (taken ++ not high ∷ []) (others ++ not high ∷ [])
        (exec_source_all s holds env gifts path child (opened before) a (taken ++ high ∷ []) one)
        (exec_source_all s holds env gifts path child (opened before) a (others ++ high ∷ []) other)
        (λ y same. longer_alike (source_depth s y) taken others (not high) (h y same))
        (alike_block a (opened before) (taken ++ high ∷ []) (others ++ high ∷ []) one other
        (λ y same. longer_alike (source_depth s y) taken others high (h y same)) e (λ i m. tells i (in_left (instances_of_block a) (instances_of_block b) i m)))
        (λ i m. tells i (in_right (instances_of_block a) (instances_of_block b) i m))
    alike_statement (instance p n m) before taken others one other h e tells = tells (record { named = n; other = m }) (inl refl) one other e
    alike_statement (wire p n begins t) before taken others one other h e tells = e
    alike_statement (register p n begins t c r) before taken others one other h e tells = e
    alike_statement (node p n c) before taken others one other h e tells = e
    alike_statement (memory p n parts) before taken others one other h e tells = e
    alike_statement (skip p) before taken others one other h e tells = e

    pub alike_block : (b : Block) (before : Before) (taken others : List Bool) (one other : DesignStore V)
        → AlikeAt taken others → one x ≡ other x
        → ((i : InstanceOf) → In (instances_of_block b) i → TellsAt i.named.name)
        → exec_source_all s holds env gifts path child before b taken one x
        ≡ exec_source_all s holds env gifts path child before b others other x
    alike_block done before taken others one other h e tells = e
    alike_block ((then) y b) before taken others one other h e tells =
        alike_block b (behind before y) taken others (exec_source s holds env gifts path child before y taken one)
        (exec_source s holds env gifts path child before y others other) h
        (alike_statement y before taken others one other h e (λ i m. tells i (in_left (instances_of y) (instances_of_block b) i m)))
        (λ i m. tells i (in_right (instances_of y) (instances_of_block b) i m))

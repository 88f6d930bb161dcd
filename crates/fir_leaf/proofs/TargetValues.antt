-- The terms of a target that stands for an aim have the aim's values, leaf by leaf; and the values of muxes and validifs.
use Rattle.std.proofs.Common.{◌≡◌, ℕ, suc, ◌+◌, List, [], ◌∷◌, Bool, map, slice_get, refl, sym, ap, ◌∙◌, arith, Option, Some, None, option_map}
use Rattle.fir_bits.specs.declared.values.Num.{Num}
use Rattle.fir_ast.specs.Types.{DataType}
use Rattle.fir_meaning.specs.Values.{number_of, is_high, choice, value_or_zero}
use Rattle.fir_meaning.specs.working.Values.{choices}
use Rattle.fir_meaning.specs.LeafPaths.{LeafPath}
use Rattle.fir_meaning.specs.TypeLeaves.{TypeLeaf, type_leaves}
use Rattle.fir_meaning.specs.TypedScopes.{TypedScope}
use Rattle.fir_meaning.proofs.FreshFields.{HasFreshFields}
use Rattle.fir_meaning.proofs.LeafSteps.{path_of}
use Rattle.fir_leaf.specs.working.LeafLaws.{numbered, path_at}
use Rattle.fir_meaning.specs.FoundTypes.{absent_type}
use Rattle.fir_meaning.specs.working.Leafed.{leaf_term, leaf_terms, target_terms, first_term, muxes}
use Rattle.fir_leaf.specs.working.Standing.{Stands, leaf_from}
use Rattle.fir_meaning.specs.working.Targets.{Target}
use Rattle.fir_meaning.specs.working.Terms as over
use Rattle.fir_meaning.specs.working.Terms.{Term, Picks}
use Rattle.fir_meaning.specs.working.TermValues.{eval, leaf_of, value_at}
use Rattle.fir_meaning.specs.TreeAims.{Aim}
use Rattle.fir_meaning.specs.TreeValues.{TypesByPath, ValuesByPath, value_where, leaf_type_where, leaf_where, aim_value}
use Rattle.fir_meaning.specs.TypeParts.{ground_at}
use Rattle.fir_leaf.proofs.AlikeTypes.{leaf_paths}
use Rattle.fir_leaf.proofs.GroundParts.{ground_of_leaf}

-- lists, leaf by leaf
pub mapped_paths : {A : Type 0} → (f : LeafPath → A) (ls : List TypeLeaf) → map f (map path_of ls) ≡ map (λ l. f l.path) ls
mapped_paths f [] = refl
mapped_paths f (l ∷ ls) = ap (λ r. f l.path ∷ r) (mapped_paths f ls)

leaves_same : (f : Term → Num) (g : LeafPath → Num) (r : Target) (k : ℕ) (ls : List TypeLeaf)
    → ((j : ℕ) (l : TypeLeaf) → slice_get ls j ≡ Some l → f (leaf_term r.base r.picks (k + j) l.ground_type) ≡ g l.path)
    → map f (leaf_terms r k ls) ≡ map g (map path_of ls)
leaves_same f g r k [] h = refl
leaves_same f g r k (l ∷ ls) h =
    let now : k + 0 ≡ k = omega arith in
    let this : f (leaf_term r.base r.picks k l.ground_type) ≡ g l.path = rw now at (h 0 l refl) in
    let rest = leaves_same f g r (suc k) ls (λ j m e. let next : suc k + j ≡ k + suc j = omega arith in rw next (h (suc j) m e)) in
    rw (this, rest) refl

pub first_same : (f : Term → Num) (ts : List Term) (v : Num) → map f ts ≡ v ∷ [] → f (first_term ts) ≡ v
first_same f [] v h = absurd (cc)
first_same f (t ∷ ts) v h = cc

pub chosen_paths : (high : Bool) (f g : LeafPath → Num) (ps : List LeafPath) → choices high (map f ps) (map g ps) ≡ map (λ p. choice high (f p) (g p)) ps
chosen_paths high f g [] = refl
chosen_paths high f g (p ∷ ps) = ap (λ l. choice high (f p) (g p) ∷ l) (chosen_paths high f g ps)

module _ (whole : TypedScope) (holds : TypesByPath) (env : ValuesByPath) where
  -- the value of a term by numbers
  abbrev pub number_value : Term → Num
  number_value = eval (numbered whole holds) (numbered whole env)

  -- one leaf of what is named
  type_there : (o : Option LeafPath) (t : DataType) (q p : LeafPath) → leaf_where o q ≡ Some p → leaf_type_where o t holds q ≡ holds p
  type_there None t q p h = absurd (cc)
  type_there (Some first) t q p h = ap holds (cc)

  type_absent : (o : Option LeafPath) (t : DataType) (q : LeafPath) → leaf_where o q ≡ None → leaf_type_where o t holds q ≡ absent_type (ground_at t q)
  type_absent None t q h = refl
  type_absent (Some first) t q h = absurd (cc)

  value_there : (o : Option ℕ) → value_where (option_map (path_at whole) o) env ≡ value_at o (numbered whole env)
  value_there None = refl
  value_there (Some k) = refl

  leaf_same : (base : Option ℕ) (ps : Picks) (k : ℕ) (ground : DataType) (at first : Option LeafPath) (t : DataType) (q : LeafPath)
      → leaf_where at q ≡ option_map (path_at whole) (leaf_from (numbered whole holds) (numbered whole env) base ps k)
      → leaf_where first q ≡ option_map (λ b. path_at whole (b + k)) base
      → ground_at t q ≡ ground
      → number_value (leaf_term base ps k ground) ≡ number_of (leaf_type_where first t holds q) (value_where (leaf_where at q) env)
  leaf_same None ps k ground at first t q a f e = rw (a, type_absent first t q f, e) refl
  leaf_same (Some b) ps k ground at first t q a f e =
      rw (a, type_there first t q (path_at whole (b + k)) f, value_there (leaf_of (numbered whole holds) (numbered whole env) (b + k) ps)) refl

  pub target_same : (r : Target) (a : Aim) → Stands whole holds env r a → HasFreshFields r.data_type
      → map number_value (target_terms r) ≡ map (aim_value holds env a) (leaf_paths r.data_type)
  target_same r a s fresh =
      leaves_same number_value (aim_value holds env a) r 0 (type_leaves r.data_type) (λ j l e.
      let none : 0 + j ≡ j = omega arith in
      let ground : ground_at a.data_type l.path ≡ l.ground_type = ap (λ t. ground_at t l.path) (sym s.data_type) ∙ ground_of_leaf r.data_type fresh j l e in
      rw none (leaf_same r.base r.picks j l.ground_type a.at a.first a.data_type l.path (s.at j l e) (s.first j l e) ground))

  pub muxes_same : (c : Term) (firsts seconds : List Term)
      → map number_value (muxes c firsts seconds) ≡ choices (is_high (number_value c ∷ [])) (map number_value firsts) (map number_value seconds)
  muxes_same c [] seconds = refl
  muxes_same c (a ∷ firsts) [] = refl
  muxes_same c (a ∷ firsts) (b ∷ seconds) =
      ap (λ l. choice (is_high (number_value c ∷ [])) (number_value a) (number_value b) ∷ l) (muxes_same c firsts seconds)

  pub validifs_same : (c : Term) (ts : List Term) (f : LeafPath → Num) (ps : List LeafPath) → map number_value ts ≡ map f ps
      → map number_value (map (over.validif c) ts) ≡ map (λ p. value_or_zero (is_high (number_value c ∷ [])) (f p)) ps
  validifs_same c [] f [] h = refl
  validifs_same c [] f (p ∷ ps) h = absurd (cc)
  validifs_same c (t ∷ ts) f [] h = absurd (cc)
  validifs_same c (t ∷ ts) f (p ∷ ps) h =
      let first : number_value t ≡ f p = cc in
      let rest : map number_value ts ≡ map f ps = cc in
      rw (first, validifs_same c ts f ps rest) refl

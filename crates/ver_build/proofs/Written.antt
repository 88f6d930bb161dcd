-- What the blocks of registers write at a tick: each of them a word of its register, or nothing.
-- Where no two are of one register, a register keeps what its block writes, and else its word.
use Rattle.std.proofs.Common.{◌≡◌, ℕ, List, [], ◌∷◌, ◌++◌, Bool, true, false, cond, ◌||◌, ◌==◌, if◌then◌else◌, map, flat_map, refl, sym, ap, ◌∙◌, inl, inr, subst, Option, Some, None, unwrap_or}
use Rattle.std.specs.Prelude.{filter, slice_set}
use Rattle.std.specs.List.{AllByRecursion, list_all}
use Rattle.std.specs.Str.{bytes_eq}
use Rattle.std.proofs.lemmas.Bool.{cond_both}
use Rattle.std.proofs.lemmas.List.Folds.{list_all-append}
use Rattle.fir_base.specs.Lists.{In, Distinct}
use Rattle.fir_base.specs.Ticks.{Env, rises}
use Rattle.fir_base.proofs.Members.{in_map}
use Rattle.fir_base.proofs.SameNames.{name_is, name_same}
use Rattle.ver_ast.specs.declared.tree.Edge.{Edge}
use Rattle.ver_ast.specs.AtomForms.{constant_number}
use Rattle.ver_ast.specs.AtomValues.{atom_value}
use Rattle.ver_ast.specs.Nets.{SizedNet, AlwaysBlock, plain_block, resetting_block, writing_block, block_targets}
use Rattle.ver_ast.specs.Next.{Put, acts, edge_rises, edge_put, puts, put_one, put_all, is_within}
use Rattle.ver_ast.specs.Stores.{Store}

-- a block of a register, and the register's name
abbrev pub OfRegister : AlwaysBlock → Type 0
OfRegister (writing_block b) = ⊥
OfRegister _ = Unit {0}

abbrev pub register_name : AlwaysBlock → List ℕ
register_name (plain_block b) = b.target
register_name (resetting_block b) = b.target
register_name (writing_block b) = []

-- a word for a register, where there is one
abbrev word_put : List ℕ → Option ℕ → List Put
word_put name None = []
word_put name (Some x) = record { name = name; place = 0; word = x } ∷ []

module _ (ns : List SizedNet) (f : Env) (named : List ℕ) where
  abbrev pub edge_word : Option Edge → Option ℕ
  edge_word None = None
  edge_word (Some e) = if rises named (f e.clock) then Some (atom_value ns f e.source) else None

  -- what a block writes at a tick of these clocks
  abbrev pub block_word : AlwaysBlock → Option ℕ
  block_word (plain_block b) = if rises named (f b.clock) then Some (atom_value ns f b.source) else None
  block_word (resetting_block b) = if f b.reset == 1 then Some (constant_number b.value) else edge_word b.edge
  block_word (writing_block b) = None

  -- what it writes, where it acts
  abbrev own_puts : AlwaysBlock → List Put
  own_puts b = if acts named f b then puts ns f b else []

  edge_puts : (name : List ℕ) (e : Option Edge)
      → (if edge_rises named f e then edge_put ns f name e else []) ≡ word_put name (edge_word e)
  edge_puts name None = refl
  edge_puts name (Some e) = by (rises named (f e.clock))
    where
      by : (c : Bool) → (if c then edge_put ns f name (Some e) else []) ≡ word_put name (if c then Some (atom_value ns f e.source) else None)
      by true = refl
      by false = refl

  puts_are : (b : AlwaysBlock) → OfRegister b → own_puts b ≡ word_put (register_name b) (block_word b)
  puts_are (plain_block b) of = by (rises named (f b.clock))
    where
      by : (c : Bool) → (if c then puts ns f (plain_block b) else []) ≡ word_put b.target (if c then Some (atom_value ns f b.source) else None)
      by true = refl
      by false = refl
  puts_are (resetting_block b) of = by (f b.reset == 1)
    where
      by : (c : Bool) → (if c || edge_rises named f b.edge then (if c then (record { name = b.target; place = 0; word = constant_number b.value } ∷ []) else edge_put ns f b.target b.edge) else [])
          ≡ word_put b.target (if c then Some (constant_number b.value) else edge_word b.edge)
      by true = refl
      by false = edge_puts b.target b.edge
  puts_are (writing_block b) of = absurd of

  abbrev pub all_written : List AlwaysBlock → List Put
  all_written bs = flat_map (puts ns f) (filter (acts named f) bs)

  split : (b : AlwaysBlock) (bs : List AlwaysBlock) → OfRegister b → all_written (b ∷ bs) ≡ word_put (register_name b) (block_word b) ++ all_written bs
  split b bs of = by (acts named f b) ∙ ap (λ (ps : List Put). ps ++ all_written bs) (puts_are b of)
    where
      by : (c : Bool) → flat_map (puts ns f) (cond c (b ∷ filter (acts named f) bs) (filter (acts named f) bs)) ≡ (if c then puts ns f b else []) ++ all_written bs
      by true = refl
      by false = refl

  put_other : (name : List ℕ) (o : Option ℕ) (s : Store) (n : List ℕ) → (name ≡ n → ⊥) → put_all (word_put name o) s n ≡ s n
  put_other name None s n other = refl
  put_other name (Some x) s n other =
      cond_both (bytes_eq name n) (slice_set (s n) 0 x) (s n) (λ xs. xs ≡ s n) (λ t. absurd (other (name_is name n t))) (λ _. refl)

  put_own : (name : List ℕ) (o : Option ℕ) (s : Store) (w : ℕ) → s name ≡ w ∷ [] → put_all (word_put name o) s name ≡ unwrap_or o w ∷ []
  put_own name None s w e = e
  put_own name (Some x) s w e =
      ap (λ (t : Bool). cond t (slice_set (s name) 0 x) (s name)) (name_same name) ∙ ap (λ (xs : List ℕ). slice_set xs 0 x) e

  put_joined : (ps qs : List Put) (s : Store) (n : List ℕ) → put_all (ps ++ qs) s n ≡ put_all qs (put_all ps s) n
  put_joined [] qs s n = refl
  put_joined (p ∷ ps) qs s n = put_joined ps qs (put_one p s) n

  -- a name that no block writes keeps its words
  pub untouched : (bs : List AlwaysBlock) → AllByRecursion OfRegister bs → (s : Store) (n : List ℕ) → (In (map register_name bs) n → ⊥)
      → put_all (all_written bs) s n ≡ s n
  untouched [] of s n lacks = refl
  untouched (b ∷ bs) of s n lacks =
      ap (λ (ps : List Put). put_all ps s n) (split b bs of.0)
      ∙ put_joined (word_put (register_name b) (block_word b)) (all_written bs) s n
      ∙ untouched bs of.1 (put_all (word_put (register_name b) (block_word b)) s) n (λ m. lacks (inr m))
      ∙ put_other (register_name b) (block_word b) s n (λ e. lacks (inl e))

  -- a register takes what its block writes, and else keeps its word
  pub written : (bs : List AlwaysBlock) → AllByRecursion OfRegister bs → Distinct (map register_name bs) → (s : Store) (b : AlwaysBlock) → In bs b
      → (w : ℕ) → s (register_name b) ≡ w ∷ [] → put_all (all_written bs) s (register_name b) ≡ unwrap_or (block_word b) w ∷ []
  written [] of once s b m w e = absurd m
  written (c ∷ bs) of once s b (inl same) w e =
      let first = word_put (register_name c) (block_word c) in
      subst (λ (d : AlwaysBlock). put_all (all_written (c ∷ bs)) s (register_name d) ≡ unwrap_or (block_word d) w ∷ []) same
      (ap (λ (ps : List Put). put_all ps s (register_name c)) (split c bs of.0)
      ∙ put_joined first (all_written bs) s (register_name c)
      ∙ untouched bs of.1 (put_all first s) (register_name c) once.0
      ∙ put_own (register_name c) (block_word c) s w (subst (λ (d : AlwaysBlock). s (register_name d) ≡ w ∷ []) (sym same) e))
  written (c ∷ bs) of once s b (inr m) w e =
      let first = word_put (register_name c) (block_word c) in
      ap (λ (ps : List Put). put_all ps s (register_name b)) (split c bs of.0)
      ∙ put_joined first (all_written bs) s (register_name b)
      ∙ written bs of.1 once.1 (put_all first s) b m w
      (put_other (register_name c) (block_word c) s (register_name b)
      (λ same. once.0 (subst (In (map register_name bs)) (sym same) (in_map register_name bs b m))) ∙ e)

  word_within : (name : List ℕ) (o : Option ℕ) (s : Store) (y : ℕ) → s name ≡ y ∷ [] → list_all (is_within s) (word_put name o) ≡ true
  word_within name None s y e = refl
  word_within name (Some x) s y e = rw e refl

  -- no write is out of range where each register has a word
  pub all_within : (bs : List AlwaysBlock) → AllByRecursion OfRegister bs → (s : Store)
      → ((b : AlwaysBlock) → In bs b → (y : ℕ) × (s (register_name b) ≡ y ∷ [])) → list_all (is_within s) (all_written bs) ≡ true
  all_within [] of s h = refl
  all_within (b ∷ bs) of s h =
      let here = h b (inl refl) in
      ap (list_all (is_within s)) (split b bs of.0)
      ∙ list_all-append (is_within s) (word_put (register_name b) (block_word b)) (all_written bs)
      ∙ rw (word_within (register_name b) (block_word b) s here.0 here.1, all_within bs of.1 s (λ c m. h c (inr m))) refl

  put_one_word : (name : List ℕ) (o : Option ℕ) (s : Store) (n : List ℕ) (w : ℕ) → s n ≡ w ∷ [] → (y : ℕ) × (put_all (word_put name o) s n ≡ y ∷ [])
  put_one_word name None s n w e = (w, e)
  put_one_word name (Some x) s n w e =
      cond_both (bytes_eq name n) (slice_set (s n) 0 x) (s n) (λ xs. (y : ℕ) × (xs ≡ y ∷ [])) (λ _. (x, ap (λ (xs : List ℕ). slice_set xs 0 x) e)) (λ _. (w, e))

  -- where there is one word, there is one after all writes
  pub one_word_still : (bs : List AlwaysBlock) → AllByRecursion OfRegister bs → (s : Store) (n : List ℕ) (w : ℕ) → s n ≡ w ∷ []
      → (y : ℕ) × (put_all (all_written bs) s n ≡ y ∷ [])
  one_word_still [] of s n w e = (w, e)
  one_word_still (b ∷ bs) of s n w e =
      let first = word_put (register_name b) (block_word b) in
      let here = put_one_word (register_name b) (block_word b) s n w e in
      let rest = one_word_still bs of.1 (put_all first s) n here.0 here.1 in
      (rest.0, ap (λ (ps : List Put). put_all ps s n) (split b bs of.0) ∙ put_joined first (all_written bs) s n ∙ rest.1)

pub register_names : (bs : List AlwaysBlock) → AllByRecursion OfRegister bs → map register_name bs ≡ block_targets bs
register_names [] of = refl
register_names (plain_block b ∷ bs) of = ap (λ ns. b.target ∷ ns) (register_names bs of.1)
register_names (resetting_block b ∷ bs) of = ap (λ ns. b.target ∷ ns) (register_names bs of.1)
register_names (writing_block b ∷ bs) of = absurd of.0

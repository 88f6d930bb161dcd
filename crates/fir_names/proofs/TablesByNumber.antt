-- The table of a module by its number, and what a table has by the declaration's number.
use Rattle.std.proofs.Common.{◌≡◌, ℕ, zero, suc, ◌+◌, List, [], ◌∷◌, length, slice_get, Some, None, Option, option_copied, IsSomeAnd, Bor, refl, sym, ap, subst, ◌∙◌, add-zero, zero-add, arith}
use Rattle.std.proofs.lemmas.List.{length-map}
use Rattle.std.proofs.lemmas.Option.{none-some, same_Some, slice_get_past, slice_get_read}
use Rattle.std.specs.Slice.{IsItemAt}
use Rattle.fir_ast.specs.Statements.{PlacedName}
use Rattle.fir_ast.specs.Circuits.{ModuleTree}
use Rattle.fir_meaning.specs.Components.{Declaration, Declarations}
use Rattle.fir_meaning.specs.Visibility.{declarations}
use Rattle.fir_names.specs.declared.declaration.Declaration.{Declaration as Entry}
use Rattle.fir_names.specs.declared.names.Names.{Names}
use Rattle.fir_names.specs.working.Judged.{TabulatesEach}
use Rattle.fir_names.specs.working.Tabulated.{Tabulates, entries_from, entry_at, entry_count, entry_of}

-- each module has a table, and each table a module
pub table_there : (names : List PlacedName) (ts : List Names) (ms : List ModuleTree) → TabulatesEach names ts ms → (k : ℕ) (m : ModuleTree)
    → slice_get ms k ≡ Some m → (t : Names) × (slice_get ts k ≡ Some t) × Tabulates names t (declarations m)
table_there names [] [] h k m e = absurd (none-some m e)
table_there names [] (n ∷ ms) h k m e = absurd h
table_there names (t ∷ ts) [] h k m e = absurd h
table_there names (t ∷ ts) (n ∷ ms) h zero m e = (t, refl, subst (λ (x : ModuleTree). Tabulates names t (declarations x)) (same_Some n m e) h.0)
table_there names (t ∷ ts) (n ∷ ms) h (suc k) m e = table_there names ts ms h.1 k m e

pub module_there : (names : List PlacedName) (ts : List Names) (ms : List ModuleTree) → TabulatesEach names ts ms → (k : ℕ) (t : Names)
    → slice_get ts k ≡ Some t → (m : ModuleTree) × (slice_get ms k ≡ Some m) × Tabulates names t (declarations m)
module_there names [] [] h k t e = absurd (none-some t e)
module_there names [] (n ∷ ms) h k t e = absurd h
module_there names (u ∷ ts) [] h k t e = absurd h
module_there names (u ∷ ts) (n ∷ ms) h zero t e = (n, refl, subst (λ (x : Names). Tabulates names x (declarations n)) (same_Some u t e) h.0)
module_there names (u ∷ ts) (n ∷ ms) h (suc k) t e = module_there names ts ms h.1 k t e

pub tables_long : (names : List PlacedName) (ts : List Names) (ms : List ModuleTree) → TabulatesEach names ts ms → length ts ≡ length ms
tables_long names [] [] h = refl
tables_long names [] (n ∷ ms) h = absurd h
tables_long names (t ∷ ts) [] h = absurd h
tables_long names (t ∷ ts) (n ∷ ms) h = ap suc (tables_long names ts ms h.1)

module _ (modules : List PlacedName) where
  -- the entry of each declaration, and the declaration of each entry
  entry_there : (position : ℕ) (ds : Declarations) (k : ℕ) (d : Declaration) → slice_get ds k ≡ Some d
      → slice_get (entries_from modules position ds) k ≡ Some (entry_of modules (position + k) d)
  entry_there position [] k d e = absurd (none-some d e)
  entry_there position (x ∷ ds) zero d e =
      ap (λ (y : Declaration). Some (entry_of modules position y)) (same_Some x d e) ∙ ap (λ (p : ℕ). Some (entry_of modules p d)) (sym (add-zero position))
  entry_there position (x ∷ ds) (suc k) d e =
      let more : suc position + k ≡ position + suc k = omega arith in
      entry_there (suc position) ds k d e ∙ ap (λ (p : ℕ). Some (entry_of modules p d)) more

  declaration_there : (position : ℕ) (ds : Declarations) (k : ℕ) (entry : Entry) → slice_get (entries_from modules position ds) k ≡ Some entry
      → (d : Declaration) × (slice_get ds k ≡ Some d) × (entry ≡ entry_of modules (position + k) d)
  declaration_there position [] k entry e = absurd (none-some entry e)
  declaration_there position (x ∷ ds) zero entry e =
      (x, refl, sym (same_Some (entry_of modules position x) entry e) ∙ ap (λ (p : ℕ). entry_of modules p x) (sym (add-zero position)))
  declaration_there position (x ∷ ds) (suc k) entry e =
      let more : suc position + k ≡ position + suc k = omega arith in
      let r = declaration_there (suc position) ds k entry e in
      (r.0, r.1, r.2 ∙ ap (λ (p : ℕ). entry_of modules p r.0) more)

  entries_long : (position : ℕ) (ds : Declarations) → length (entries_from modules position ds) ≡ length ds
  entries_long position [] = refl
  entries_long position (d ∷ ds) = ap suc (entries_long (suc position) ds)

module _ (modules : List PlacedName) (t : Names) (ds : Declarations) (h : Tabulates modules t ds) where
  -- the entries stand by their numbers
  by_number : (k : ℕ) → entry_at t k ≡ slice_get (entries_from modules 0 ds) k
  by_number k = ap (λ es. slice_get es k) h.in_order

  pub entry_read : (k : ℕ) (d : Declaration) → slice_get ds k ≡ Some d → entry_at t k ≡ Some (entry_of modules k d)
  entry_read k d e = by_number k ∙ entry_there modules 0 ds k d e ∙ ap (λ (p : ℕ). Some (entry_of modules p d)) (zero-add k)

  pub declaration_read : (k : ℕ) (entry : Entry) → entry_at t k ≡ Some entry
      → (d : Declaration) × (slice_get ds k ≡ Some d) × (entry ≡ entry_of modules k d)
  declaration_read k entry e =
      let r = declaration_there modules 0 ds k entry (sym (by_number k) ∙ e) in
      (r.0, r.1, r.2 ∙ ap (λ (p : ℕ). entry_of modules p r.0) (zero-add k))

  pub in_order_long : entry_count t ≡ length ds
  in_order_long =
      sym (length-map t.declarations.entries (λ e. e.1)) ∙ ap length h.in_order ∙ entries_long modules 0 ds

-- what `get` answers
pub item_is : {X : Type 0} → (xs : List X) (i : ℕ) (r : Option (Bor X)) → IsItemAt xs i r → option_copied r ≡ slice_get xs i
item_is xs i None h = sym (slice_get_past xs i h.3)
item_is xs i (Some x) h = sym (slice_get_read xs (length xs) i x.now refl h.3.0 h.1)

pub lent_table : (names : List PlacedName) (ts : List Names) (ms : List ModuleTree) → TabulatesEach names ts ms → (k : ℕ) (m : ModuleTree)
    → slice_get ms k ≡ Some m → (r : Option (Bor Names)) → option_copied r ≡ slice_get ts k → IsSomeAnd r (λ t. Tabulates names t.now (declarations m))
lent_table names ts ms h k m is None e = let t = table_there names ts ms h k m is in none-some t.0 (e ∙ t.1)
lent_table names ts ms h k m is (Some x) e =
    let t = table_there names ts ms h k m is in
    subst (λ (y : Names). Tabulates names y (declarations m)) (sym (same_Some x.now t.0 (e ∙ t.1))) t.2

-- What is visible, as declarations come and as blocks are opened and closed.
use Rattle.std.proofs.Common.{◌≡◌, ℕ, zero, suc, ◌+◌, ◌<◌, ◌≤◌, List, [], ◌∷◌, ◌++◌, map, length, slice_get, Bool, true, false, cond, is_some, Option, Some, None, refl, sym, ap, ◌∙◌, inl, inr, subst, arith, le-leb}
use Rattle.std.specs.List.{AllByRecursion}
use Rattle.std.specs.Str.{bytes_eq}
use Rattle.std.proofs.lemmas.Bool.{lt-leb}
use Rattle.fir_base.specs.Lists.{In, Distinct}
use Rattle.fir_base.proofs.Elements.{there}
use Rattle.fir_base.proofs.SameNames.{name_is, name_other}
use Rattle.fir_ast.specs.Statements.{PlacedName}
use Rattle.fir_meaning.specs.Components.{Declaration, Declarations, find}
use Rattle.fir_names.specs.declared.declaration.Declaration.{Declaration as Entry}
use Rattle.fir_names.specs.working.Tabulated.{entry_of, entry_named}
use Rattle.fir_resolve.specs.working.Opened.{begins_by, is_open, open_from}
use Rattle.fir_resolve.specs.working.Scoped.{is_open_entry}

-- declarations behind others
append_step : (b : Bool) (d : Declaration) (xs ys zs : Declarations) → zs ≡ xs ++ ys → cond b (d ∷ zs) zs ≡ cond b (d ∷ xs) xs ++ ys
append_step true d xs ys zs e = ap (λ s. d ∷ s) e
append_step false d xs ys zs e = e

pub open_append : (opened : List ℕ) (i j : ℕ) (xs ys : Declarations) → i + length xs ≡ j
    → open_from opened i (xs ++ ys) ≡ open_from opened i xs ++ open_from opened j ys
open_append opened i j [] ys e = let same : i ≡ j = omega arith in ap (λ k. open_from opened k ys) same
open_append opened i j (d ∷ xs) ys e =
    append_step (is_open opened i d.depth) d (open_from opened (suc i) xs) (open_from opened j ys) (open_from opened (suc i) (xs ++ ys))
    (open_append opened (suc i) j xs ys (omega arith))

-- a declaration at the place is visible
pub open_here : (opened : List ℕ) (j : ℕ) → ((k start : ℕ) → slice_get opened k ≡ Some start → start ≤ j) → is_open opened j (length opened) ≡ true
open_here [] j begun = refl
open_here (x ∷ xs) j begun =
    let last = there (x ∷ xs) (length xs) (omega arith) in
    ap (λ o. begins_by o j) last.1 ∙ le-leb last.0 j (begun (length xs) last.0 last.1)

-- a block that begins behind declarations leaves them as they were
begins_more : (opened : List ℕ) (start i depth : ℕ) → i < start
    → begins_by (slice_get (opened ++ start ∷ []) depth) i ≡ begins_by (slice_get opened depth) i
begins_more [] start i zero before = lt-leb start i before
begins_more [] start i (suc depth) before = refl
begins_more (x ∷ xs) start i zero before = refl
begins_more (x ∷ xs) start i (suc depth) before = begins_more xs start i depth before

is_open_more : (opened : List ℕ) (start i depth : ℕ) → i < start → is_open (opened ++ start ∷ []) i depth ≡ is_open opened i depth
is_open_more opened start i zero before = refl
is_open_more opened start i (suc depth) before = begins_more opened start i depth before

pub open_more : (opened : List ℕ) (start i : ℕ) (ds : Declarations) → i + length ds ≤ start → open_from (opened ++ start ∷ []) i ds ≡ open_from opened i ds
open_more opened start i [] within = refl
open_more opened start i (d ∷ ds) within =
    ap (λ b. cond b (d ∷ open_from (opened ++ start ∷ []) (suc i) ds) (open_from (opened ++ start ∷ []) (suc i) ds))
    (is_open_more opened start i d.depth (omega arith))
    ∙ ap (λ rest. cond (is_open opened i d.depth) (d ∷ rest) rest) (open_more opened start (suc i) ds (omega arith))

-- a declaration in a block that is closed is not visible
closed_get : (opened : List ℕ) (depth : ℕ) → length opened ≤ depth → slice_get opened depth ≡ None
closed_get [] depth deep = refl
closed_get (x ∷ xs) zero deep = absurd (omega arith)
closed_get (x ∷ xs) (suc depth) deep = closed_get xs depth (omega arith)

is_closed : (opened : List ℕ) (i depth : ℕ) → suc (length opened) ≤ depth → is_open opened i depth ≡ false
is_closed opened i zero deep = absurd (omega arith)
is_closed opened i (suc depth) deep = ap (λ o. begins_by o i) (closed_get opened depth (omega arith))

pub open_none : (opened : List ℕ) (i : ℕ) (ds : Declarations) → AllByRecursion (λ d. suc (length opened) ≤ d.depth) ds → open_from opened i ds ≡ []
open_none opened i [] deep = refl
open_none opened i (d ∷ ds) deep =
    ap (λ b. cond b (d ∷ open_from opened (suc i) ds) (open_from opened (suc i) ds)) (is_closed opened i d.depth deep.0)
    ∙ open_none opened (suc i) ds deep.1

-- what is found under a name is visible where its block is open
find_apart : (b : Bool) (d : Declaration) (rest : Declarations) (n : List ℕ) → bytes_eq d.named.name n ≡ false
    → find (cond b (d ∷ rest) rest) n ≡ find rest n
find_apart true d rest n other = ap (λ c. cond c (Some d) (find rest n)) other
find_apart false d rest n other = refl

unseen : (opened : List ℕ) (i : ℕ) (ds : Declarations) (n : List ℕ) → (In (map (λ d. d.named.name) ds) n → ⊥) → find (open_from opened i ds) n ≡ None
unseen opened i [] n apart = refl
unseen opened i (d ∷ ds) n apart =
    find_apart (is_open opened i d.depth) d (open_from opened (suc i) ds) n (name_other d.named.name n (λ e. apart (inl e)))
    ∙ unseen opened (suc i) ds n (λ m. apart (inr m))

seen_step : (opened : List ℕ) (same shown : Bool) (d : Declaration) (e : Entry) (n : List ℕ) (found : Option Entry) (rest : Declarations)
    → bytes_eq d.named.name n ≡ same → is_open opened e.position e.depth ≡ shown → (same ≡ true → find rest n ≡ None)
    → is_open_entry opened found ≡ is_some (find rest n)
    → is_open_entry opened (cond same (Some e) found) ≡ is_some (find (cond shown (d ∷ rest) rest) n)
seen_step opened true true d e n found rest is begun once behind = begun ∙ sym (ap (λ b. is_some (cond b (Some d) (find rest n))) is)
seen_step opened true false d e n found rest is begun once behind = begun ∙ sym (ap is_some (once refl))
seen_step opened false true d e n found rest is begun once behind = behind ∙ sym (ap (λ b. is_some (cond b (Some d) (find rest n))) is)
seen_step opened false false d e n found rest is begun once behind = behind

pub seen_is : (opened : List ℕ) (modules : List PlacedName) (i : ℕ) (ds : Declarations) (n : List ℕ) → Distinct (map (λ d. d.named.name) ds)
    → is_open_entry opened (entry_named modules i ds n) ≡ is_some (find (open_from opened i ds) n)
seen_is opened modules i [] n once = refl
seen_is opened modules i (d ∷ ds) n once =
    seen_step opened (bytes_eq d.named.name n) (is_open opened i d.depth) d (entry_of modules i d) n (entry_named modules (suc i) ds n)
    (open_from opened (suc i) ds) refl refl
    (λ same. unseen opened (suc i) ds n (λ m. once.0 (subst (In (map (λ d. d.named.name) ds)) (sym (name_is d.named.name n same)) m)))
    (seen_is opened modules (suc i) ds n once.1)

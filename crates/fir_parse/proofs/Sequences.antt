-- Statements of a level, with whens of which each may have the next in its else.
use Rattle.std.proofs.Common.{◌≡◌, ℕ, Vec, Global, false, codes, length, List, [], ◌∷◌, ◌++◌, map, refl, sym, ap, ◌∙◌, arith}
use Rattle.std.specs.Str.{bytes_eq}
use Rattle.std.proofs.Math.Path.{fun_ext}
use Rattle.std.proofs.lemmas.List.{map-append}
use Rattle.fir_ast.specs.declared.statements.Stmt.{Stmt}
use Rattle.fir_ast.specs.declared.statements.Stmt.TheVariants as code
use Rattle.fir_ast.specs.Statements.{Statement, when, Block, done, then}
use Rattle.fir_ast.specs.working.Views.{stmt_of, block_of}
use Rattle.fir_parse.proofs.StatementViews.{when_view}
use Rattle.fir_parse.specs.declared.whens.OpenWhen.{OpenWhen as OpenWhenRef}
use Rattle.fir_parse.specs.working.Symbols.{OpenWhen, statements}
use Rattle.fir_parse.specs.working.States.{State, wants}
use Rattle.fir_parse.specs.working.StatementRules.{chain, closed_before, may_be_else}
use Rattle.fir_parse.specs.working.StatementTrees.{open_when_of, statements_before}

abbrev closed : OpenWhen → Block → Statement
closed w last = when w.place w.condition w.block last

chain_longer : (ws : List OpenWhen) (w : OpenWhen) (last : Block) → chain (ws ++ w ∷ []) last ≡ chain ws ((then) (closed w last) done)
chain_longer [] w last = refl
chain_longer (v ∷ ws) w last = ap (λ b. (then) (closed v b) done) (chain_longer ws w last)

-- the last of the whens is the else of the one before
closed_longer : (ws : List OpenWhen) (w : OpenWhen) (last rest : Block) → (ws ≡ [] → ⊥) → closed_before (ws ++ w ∷ []) last rest ≡ closed_before ws ((then) (closed w last) done) rest
closed_longer [] w last rest h = absurd (h refl)
closed_longer (v ∷ ws) w last rest h = ap (λ b. (then) (closed v b) rest) (chain_longer ws w last)

pub some_open : (ws : List OpenWhenRef) → (ws ≡ [] → ⊥) → map open_when_of ws ≡ [] → ⊥
some_open [] h = absurd (h refl)
some_open (w ∷ ws) h = λ e. cc

before_one_more : (ss : List Statement) (s : Statement) (rest : Block) → statements_before (ss ++ s ∷ []) rest ≡ statements_before ss ((then) s rest)
before_one_more [] s rest = refl
before_one_more (t ∷ ss) s rest = ap (λ b. (then) t b) (before_one_more ss s rest)

-- a statement more behind those that are done
pub done_longer : (old new : List Stmt) (s : Stmt) (rest : Block) → new ≡ old ++ s ∷ [] → statements_before (map stmt_of new) rest ≡ statements_before (map stmt_of old) ((then) (stmt_of s) rest)
done_longer old new s rest e =
    ap (λ l. statements_before (map stmt_of l) rest) e ∙ ap (λ l. statements_before l rest) (map-append stmt_of old (s ∷ [])) ∙ before_one_more (map stmt_of old) (stmt_of s) rest

abbrev pub when_with : OpenWhenRef → Vec Stmt Global → Stmt
when_with w last = code.When w.place (record { condition = w.condition; then_block = w.block; else_block = last })

-- the last of several open whens is closed, in the else of the one before
pub closes_last : (os ns : List OpenWhenRef) (w : OpenWhenRef) (last : Vec Stmt Global) (next : List Stmt) (rest : Block) → os ≡ ns ++ w ∷ [] → (ns ≡ [] → ⊥) → next ≡ when_with w last ∷ [] → closed_before (map open_when_of os) (block_of (map stmt_of last.items)) rest ≡ closed_before (map open_when_of ns) (block_of (map stmt_of next)) rest
closes_last os ns w last next rest e h f =
    ap (λ l. closed_before (map open_when_of l) (block_of (map stmt_of last.items)) rest) e ∙ ap (λ l. closed_before l (block_of (map stmt_of last.items)) rest) (map-append open_when_of ns (w ∷ []))
    ∙ closed_longer (map open_when_of ns) (open_when_of w) (block_of (map stmt_of last.items)) rest (some_open ns h)
    ∙ ap (λ t. closed_before (map open_when_of ns) ((then) t done) rest) (sym (when_view w.place (record { condition = w.condition; then_block = w.block; else_block = last })))
    ∙ ap (λ l. closed_before (map open_when_of ns) (block_of (map stmt_of l)) rest) (sym f)

-- the last open when is closed, behind the statements that are done
pub closes_first : (os ns : List OpenWhenRef) (w : OpenWhenRef) (last : Vec Stmt Global) (old new : List Stmt) (rest : Block) → os ≡ ns ++ w ∷ [] → ns ≡ [] → new ≡ old ++ when_with w last ∷ [] → statements_before (map stmt_of new) rest ≡ statements_before (map stmt_of old) (closed_before (map open_when_of os) (block_of (map stmt_of last.items)) rest)
closes_first os ns w last old new rest e h f =
    done_longer old new (when_with w last) rest f
    ∙ ap (λ t. statements_before (map stmt_of old) ((then) t rest)) (when_view w.place (record { condition = w.condition; then_block = w.block; else_block = last }))
    ∙ ap (λ l. statements_before (map stmt_of old) (closed_before (map open_when_of l) (block_of (map stmt_of last.items)) rest)) (sym (e ∙ ap (λ l. l ++ w ∷ []) h))

-- no when is open
pub closes_none : (ss : List Statement) (os : List OpenWhenRef) (last rest : Block) → length os ≡ 0 → statements_before ss rest ≡ statements_before ss (closed_before (map open_when_of os) last rest)
closes_none ss [] last rest e = refl
closes_none ss (o ∷ os) last rest e = absurd (omega arith)

pub none_left : (os : List OpenWhenRef) → length os ≡ 0 → os ≡ []
none_left [] e = refl
none_left (o ∷ os) e = absurd (omega arith)

-- a level goes on alike behind the same open whens and blocks
pub level_alike : (d : ℕ) (us vs : List OpenWhen) (f g : Block → Block) (k : Block → State) → us ≡ vs → ((rest : Block) → f rest ≡ g rest) → wants (statements d us) (λ rest. k (f rest)) ≡ wants (statements d vs) (λ rest. k (g rest))
level_alike d us vs f g k e h = ap (λ l. wants (statements d l) (λ rest. k (f rest))) e ∙ ap (λ m. wants (statements d vs) (λ rest. k (m rest))) (fun_ext h)

pub no_opens : (old : List OpenWhenRef) → old ≡ [] → [] ≡ map open_when_of old
no_opens old e = sym (ap (map open_when_of) e)

pub before_done : (ss : List Statement) → statements_before ss done ≡ block_of ss
before_done [] = refl
before_done (s ∷ ss) = ap (λ b. (then) s b) (before_done ss)

-- all open whens are closed without an else
pub closed_all : (old new : List Statement) (ws : List OpenWhen) (last : List Stmt) (rest : Block) → last ≡ [] → statements_before new rest ≡ statements_before old (closed_before ws (block_of (map stmt_of last)) rest) → statements_before old (closed_before ws done rest) ≡ statements_before new rest
closed_all old new ws last rest e h = ap (λ l. statements_before old (closed_before ws (block_of (map stmt_of l)) rest)) (sym e) ∙ sym h

-- the statements of a level, of which none is read
pub starts : (d : ℕ) (ss : List Stmt) (os : List OpenWhenRef) (k : Block → State) → ss ≡ [] → os ≡ [] → wants (statements d []) k ≡ wants (statements d (map open_when_of os)) (λ rest. k (statements_before (map stmt_of ss) rest))
starts d ss os k e h = level_alike d [] (map open_when_of os) (λ rest. rest) (statements_before (map stmt_of ss)) k (no_opens os h) (λ rest. ap (λ l. statements_before (map stmt_of l) rest) (sym e))

-- what follows does alike behind equal blocks
pub behind_alike : (f g : Block → Block) (k : Block → State) → ((rest : Block) → f rest ≡ g rest) → ◌≡◌ {A = Block → State} (λ rest. k (f rest)) (λ rest. k (g rest))
behind_alike f g k h = ap (λ (m : Block → Block). λ rest. k (m rest)) (fun_ext h)

pub no_whens : (os : List OpenWhenRef) (w : List ℕ) → os ≡ [] → may_be_else (map open_when_of os) w ≡ false
no_whens os w e = ap (λ l. may_be_else (map open_when_of l) w) e

pub no_else_word : (ws : List OpenWhen) (w : List ℕ) → bytes_eq w (codes "else") ≡ false → may_be_else ws w ≡ false
no_else_word [] w e = refl
no_else_word (v ∷ ws) w e = e

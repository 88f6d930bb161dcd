-- The walk that finds the told choice, one statement of a block after another.
use Rattle.std.proofs.Common.{◌≡◌, ℕ, ◌+◌, ◌<◌, List, [], ◌∷◌, ◌++◌, Bool, true, false, ◌||◌, map, take, get_or, length, refl, sym, ap, ◌∙◌, append_assoc, append-nil}
use Rattle.std.proofs.lemmas.Bool.{or_parts}
use Rattle.std.proofs.lemmas.List.{map_more}
use Rattle.fir_ast.specs.declared.fault.Outcome.{Outcome}
use Rattle.fir_leaf.specs.declared.node.Node.{Node}
use Rattle.fir_leaf.specs.declared.statement.LeafStmt.{LeafStmt}
use Rattle.fir_leaf.specs.working.NodeBlocks.{block_in, block_of, statement_in}
use Rattle.fir_meaning.specs.working.LeafBlocks.{LeafStatement}
use Rattle.fir_meaning.specs.working.Choices.{covers, covers_all}
use Rattle.fir_meaning.specs.working.UndrivenChoices.{drives, drives_any}
use Rattle.fir_driven.specs.declared.choice.Asked.{Asked}
use Rattle.fir_driven.specs.declared.choice.Told.{Told}
use Rattle.fir_driven.specs.working.Missed.{missed, missed_all}
use Rattle.fir_driven.specs.working.MissWalks.{Misses, MissesBlock, MissesStatement}

or_false : (a : Bool) → (a || false) ≡ a
or_false true = refl
or_false false = refl

or_assoc : (a b c : Bool) → (a || (b || c)) ≡ ((a || b) || c)
or_assoc true b c = refl
or_assoc false b c = refl

pub or_comm : (a b : Bool) → (a || b) ≡ (b || a)
or_comm true true = refl
or_comm true false = refl
or_comm false true = refl
or_comm false false = refl

or_behind : (a b c : Bool) → ((a || b) || c) ≡ ((a || c) || b)
or_behind true b c = refl
or_behind false b c = or_comm b c

-- what is found behind what was found before
pub misses_then : (c1 c2 d1 d2 : Bool) (m1 m2 : List Outcome) (one other told : Told) (before between after : List Outcome)
    → Misses c1 d1 m1 one before between → Misses c2 d2 m2 other between after
    → told.covered ≡ (one.covered || other.covered) → told.drives ≡ (one.drives || other.drives)
    → Misses (c1 || c2) (d1 || d2) (m1 ++ m2) told before after
misses_then c1 c2 d1 d2 m1 m2 one other told before between after p q is_covered is_driven = record {
  covered = is_covered ∙ rw (p.covered, q.covered) refl;
  drives = is_driven ∙ rw (p.drives, q.drives) refl;
  added = p.added ++ q.added;
  grows = q.grows ∙ ap (λ l. l ++ q.added) p.grows ∙ append_assoc before p.added q.added;
  missed = λ e. let both = or_parts c1 c2 e in rw (p.missed both.0, q.missed both.1) refl;
}

-- the same, said otherwise
pub misses_as : (c1 c2 d1 d2 : Bool) (m1 m2 : List Outcome) (told : Told) (before after : List Outcome) → c1 ≡ c2 → d1 ≡ d2 → m1 ≡ m2
    → Misses c1 d1 m1 told before after → Misses c2 d2 m2 told before after
misses_as c1 c2 d1 d2 m1 m2 told before after c d m p = record {
  covered = p.covered ∙ c;
  drives = p.drives ∙ d;
  added = p.added;
  grows = p.grows;
  missed = λ e. p.missed (c ∙ e) ∙ m;
}

-- nothing that is told
pub misses_none : (before : List Outcome) → Misses false false [] (record { covered = false; drives = false }) before before
misses_none before = record { covered = refl; drives = refl; added = []; grows = sym (append-nil before); missed = λ e. refl }

covers_push : (depth x k : ℕ) (ss : List LeafStatement) (s : LeafStatement)
    → covers_all depth x (block_of (ss ++ s ∷ [])) k ≡ (covers_all depth x (block_of ss) k || covers depth x s k)
covers_push depth x k [] s = refl
covers_push depth x k (r ∷ ss) s =
    ap (λ z. z || covers depth x r k) (covers_push depth x k ss s) ∙ or_behind (covers_all depth x (block_of ss) k) (covers depth x s k) (covers depth x r k)

drives_push : (x : ℕ) (ss : List LeafStatement) (s : LeafStatement) → drives_any x (block_of (ss ++ s ∷ [])) ≡ (drives_any x (block_of ss) || drives x s)
drives_push x [] s = or_false (drives x s)
drives_push x (r ∷ ss) s = ap (λ z. drives x r || z) (drives_push x ss s) ∙ or_assoc (drives x r) (drives_any x (block_of ss)) (drives x s)

missed_push : (depth x k : ℕ) (ss : List LeafStatement) (s : LeafStatement)
    → missed_all depth x (block_of (ss ++ s ∷ [])) k ≡ missed_all depth x (block_of ss) k ++ missed depth x s k
missed_push depth x k [] s = append-nil (missed depth x s k)
missed_push depth x k (r ∷ ss) s =
    ap (λ z. missed depth x r k ++ z) (missed_push depth x k ss s)
    ∙ sym (append_assoc (missed depth x r k) (missed_all depth x (block_of ss) k) (missed depth x s k))

-- one more statement of a block
pub misses_more : (asked : Asked) (nodes : List Node) (body : List LeafStmt) (i k : ℕ) (s : LeafStmt) (one other told : Told)
    (before between after : List Outcome) → i < length body → s ≡ get_or body i s
    → MissesBlock asked (block_in nodes (take i body)) k one before between → MissesStatement asked (statement_in nodes s) k other between after
    → told.covered ≡ (one.covered || other.covered) → told.drives ≡ (one.drives || other.drives)
    → MissesBlock asked (block_in nodes (take (i + 1) body)) k told before after
misses_more asked nodes body i k s one other told before between after within is p q is_covered is_driven =
    let depth = asked.depth in
    let x = asked.leaf in
    let ss = map (statement_in nodes) (take i body) in
    let m = statement_in nodes s in
    let more : block_in nodes (take (i + 1) body) ≡ block_of (ss ++ m ∷ []) =
    ap block_of (map_more (statement_in nodes) body i s within ∙ ap (λ r. ss ++ statement_in nodes r ∷ []) (sym is)) in
    misses_as (covers_all depth x (block_of ss) k || covers depth x m k) (covers_all depth x (block_in nodes (take (i + 1) body)) k)
    (drives_any x (block_of ss) || drives x m) (drives_any x (block_in nodes (take (i + 1) body)))
    (missed_all depth x (block_of ss) k ++ missed depth x m k) (missed_all depth x (block_in nodes (take (i + 1) body)) k) told before after
    (sym (ap (λ b. covers_all depth x b k) more ∙ covers_push depth x k ss m))
    (sym (ap (drives_any x) more ∙ drives_push x ss m))
    (sym (ap (λ b. missed_all depth x b k) more ∙ missed_push depth x k ss m))
    (misses_then (covers_all depth x (block_of ss) k) (covers depth x m k) (drives_any x (block_of ss)) (drives x m) (missed_all depth x (block_of ss) k)
    (missed depth x m k) one other told before between after p q is_covered is_driven)

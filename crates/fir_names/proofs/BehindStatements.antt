-- What statements declare: it stands behind what was declared before, within as many whens or more, and they leave the depth as it was.
use Rattle.std.proofs.Common.{◌≡◌, ℕ, ◌+◌, ◌≤◌, [], ◌∷◌, ◌++◌, refl, sym, ap, ◌∙◌, append_assoc, arith}
use Rattle.std.specs.List.{AllByRecursion}
use Rattle.std.proofs.lemmas.List.{append-nil}
use Rattle.fir_base.proofs.Each.{all_joined}
use Rattle.fir_ast.specs.Statements.{PlacedName, Statement, wire, register, node, instance, memory, when, connect, partial_connect, invalid, skip, Block, done, then}
use Rattle.fir_meaning.specs.Components.{Component, Declaration, Declarations}
use Rattle.fir_meaning.specs.Components as component
use Rattle.fir_meaning.specs.Visibility.{Before, declaration_at, with_declaration, opened, reopened, closed, behind, behind_block}

-- all of these stand within so many whens
abbrev pub AreWithin : ℕ → Declarations → Type 0
AreWithin depth = AllByRecursion (λ d. depth ≤ d.depth)

pub record Adds (before after : Before) : Type 0 where
  pub depth : after.depth ≡ before.depth
  pub added : Declarations
  pub declared : after.declared ≡ before.declared ++ added
  pub within : AreWithin before.depth added

deeper : (low high : ℕ) (ds : Declarations) → low ≤ high → AreWithin high ds → AreWithin low ds
deeper low high [] below h = tt
deeper low high (d ∷ ds) below h = (omega (arith, h.0), deeper low high ds below h.1)

adds_none : (before : Before) → Adds before before
adds_none before = record { depth = refl; added = []; declared = sym (append-nil before.declared); within = tt }

adds_one : (before : Before) (n : PlacedName) (c : Component) → Adds before (with_declaration before n c)
adds_one before n c = record { depth = refl; added = declaration_at before n c ∷ []; declared = refl; within = (omega arith, tt) }

adds_both : (first second third : Before) → Adds first second → Adds second third → Adds first third
adds_both first second third a b = record {
  depth = b.depth ∙ a.depth;
  added = a.added ++ b.added;
  declared = b.declared ∙ ap (λ ds. ds ++ b.added) a.declared ∙ append_assoc first.declared a.added b.added;
  within =
      all_joined (λ d. first.depth ≤ d.depth) a.added b.added a.within
      (deeper first.depth second.depth b.added (let same = a.depth in omega arith) b.within);
}

adds_when : (before inside : Before) → Adds (opened before) inside → Adds before (closed before inside)
adds_when before inside a = record {
  depth = refl;
  added = a.added;
  declared = a.declared;
  within = deeper before.depth (before.depth + 1) a.added (omega arith) a.within;
}

mutual
  pub adds_statement : (before : Before) (s : Statement) → Adds before (behind before s)
  adds_statement before (wire p n begins t) = adds_one before n (component.wire t)
  adds_statement before (register p n begins t c r) = adds_one before n (component.register t)
  adds_statement before (node p n e) = adds_one before n (component.node e)
  adds_statement before (instance p n m) = adds_one before n (component.instance m.name)
  adds_statement before (memory p n parts) = adds_one before n (component.memory parts)
  adds_statement before (when p c a b) =
      let inside = behind_block (opened before) a in
      let first = adds_when before inside (adds_block (opened before) a) in
      let second = adds_when (closed before inside) (behind_block (reopened before inside) b) (adds_block (reopened before inside) b) in
      adds_both before (closed before inside) (closed before (behind_block (reopened before inside) b)) first second
  adds_statement before (connect p sink e) = adds_none before
  adds_statement before (partial_connect p sink e) = adds_none before
  adds_statement before (invalid p sink) = adds_none before
  adds_statement before (skip p) = adds_none before

  pub adds_block : (before : Before) (b : Block) → Adds before (behind_block before b)
  adds_block before done = adds_none before
  adds_block before ((then) s b) =
      adds_both before (behind before s) (behind_block (behind before s) b) (adds_statement before s) (adds_block (behind before s) b)

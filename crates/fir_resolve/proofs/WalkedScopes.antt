-- The code's scope, as declarations come and as blocks are opened and closed.
use Rattle.std.proofs.Common.{◌≡◌, ℕ, zero, suc, ◌≤◌, List, [], ◌∷◌, ◌++◌, length, slice_get, Bool, true, false, cond, Some, None, is_some, refl, sym, ap, ◌∙◌, subst, append-nil, length-append, arith}
use Rattle.fir_ast.specs.Statements.{PlacedName, Block}
use Rattle.fir_meaning.specs.Components.{Component, Declaration, find}
use Rattle.fir_meaning.specs.Visibility.{Before, declaration_at, with_declaration, opened, closed, behind_block, at_head}
use Rattle.fir_resolve.specs.declared.scope.Scope.{Scope}
use Rattle.fir_names.specs.working.Tabulated.{Tabulates, entry_count}
use Rattle.fir_resolve.specs.working.Opened.{is_open, open_from, Opens, Closes}
use Rattle.fir_resolve.specs.working.Scoped.{is_open_entry, Sees, Walks}
use Rattle.fir_names.proofs.GrownTables.{table_length}
use Rattle.fir_resolve.proofs.OpenBlocks.{open_append, open_here, open_more, open_none, seen_is}
use Rattle.fir_names.proofs.BehindStatements.{AreWithin, adds_block}

-- a scope that walks sees what is visible
pub sees : (modules : List PlacedName) (scope : Scope) (before : Before) → Walks modules scope before → Sees scope before.visible
sees modules scope before w = record {
  each = λ n.
      ap (is_open_entry scope.opened.items) (w.declared.by_name n) ∙ seen_is scope.opened.items modules 0 before.declared n w.declared.once
      ∙ ap (λ ds. is_some (find ds n)) (sym w.visible);
}

pub walks_head : (modules : List PlacedName) (scope : Scope) → Tabulates modules scope.names [] → scope.opened.items ≡ [] → Walks modules scope at_head
walks_head modules scope t none = record {
  declared = t;
  visible = refl;
  depth = sym (ap length none);
  begun = λ k start is. absurd (let no : None ≡ Some start = ap (λ xs. slice_get xs k) (sym none) ∙ is in cc);
}

-- one more declaration
shown_last : (b : Bool) (d : Declaration) → b ≡ true → cond b (d ∷ []) [] ≡ d ∷ []
shown_last true d is = refl
shown_last false d is = absurd (cc)

pub walks_more : (modules : List PlacedName) (old new : Scope) (before : Before) (n : PlacedName) (c : Component) → new.opened.items ≡ old.opened.items
    → Tabulates modules new.names (before.declared ++ declaration_at before n c ∷ []) → Walks modules old before
    → Walks modules new (with_declaration before n c)
walks_more modules old new before n c same t w =
    let d = declaration_at before n c in
    let at = length before.declared in
    let here : is_open old.opened.items at before.depth ≡ true = ap (is_open old.opened.items at) w.depth ∙ open_here old.opened.items at w.begun in
    record {
      declared = t;
      visible =
          ap (λ ds. ds ++ d ∷ []) w.visible
          ∙ ap (λ ds. open_from old.opened.items 0 before.declared ++ ds) (sym (shown_last (is_open old.opened.items at before.depth) d here))
          ∙ sym (open_append old.opened.items 0 at before.declared (d ∷ []) (omega arith))
          ∙ ap (λ blocks. open_from blocks 0 (before.declared ++ d ∷ [])) (sym same);
      depth = w.depth ∙ ap length (sym same);
      begun = λ k start is.
          let low = w.begun k start (ap (λ blocks. slice_get blocks k) (sym same) ∙ is) in
          omega (arith, length-append before.declared (d ∷ []));
    }

-- a block is opened
begun_more : (opened : List ℕ) (last count : ℕ) → ((k start : ℕ) → slice_get opened k ≡ Some start → start ≤ count) → last ≤ count
    → (k start : ℕ) → slice_get (opened ++ last ∷ []) k ≡ Some start → start ≤ count
begun_more [] last count begun within zero start is = let same : last ≡ start = cc in omega arith
begun_more [] last count begun within (suc k) start is = absurd (let no : None ≡ Some start = is in cc)
begun_more (x ∷ xs) last count begun within zero start is = begun 0 start is
begun_more (x ∷ xs) last count begun within (suc k) start is = begun_more xs last count (λ j other at. begun (suc j) other at) within k start is

pub walks_opened : (modules : List PlacedName) (old new : Scope) (before : Before) → Opens old new → Walks modules old before → Walks modules new (opened before)
walks_opened modules old new before o w =
    let count = table_length modules old.names before.declared w.declared in
    let start = entry_count old.names in
    record {
      declared = subst (λ names. Tabulates modules names before.declared) (sym o.names) w.declared;
      visible =
          w.visible ∙ sym (open_more old.opened.items start 0 before.declared (omega arith))
          ∙ ap (λ blocks. open_from blocks 0 before.declared) (sym o.opened);
      depth = let longer = length-append old.opened.items (start ∷ []) in let deep = w.depth in omega (arith, ap length o.opened);
      begun = λ k begins is.
          begun_more old.opened.items start (length before.declared) w.begun (omega arith) k begins (ap (λ blocks. slice_get blocks k) (sym o.opened) ∙ is);
    }

-- a block is closed that was opened at the place
pub walks_closed : (modules : List PlacedName) (old inside late new : Scope) (before : Before) (b : Block) → Walks modules old before → Opens old inside
    → late.opened.items ≡ inside.opened.items → Closes late new → Walks modules late (behind_block (opened before) b)
    → Walks modules new (closed before (behind_block (opened before) b)) × (new.opened.items ≡ old.opened.items)
walks_closed modules old inside late new before b w o same c l =
    let start = entry_count old.names in
    let back : new.opened.items ≡ old.opened.items = c.closed old.opened.items start (same ∙ o.opened) in
    let a = adds_block (opened before) b in
    let within : AreWithin (suc (length old.opened.items)) a.added =
    subst (λ depth. AreWithin depth a.added) (let deep = w.depth in omega arith) a.within in
    let hidden = open_none old.opened.items (length before.declared) a.added within in (
      record {
        declared = subst (λ names. Tabulates modules names (behind_block (opened before) b).declared) (sym c.names) l.declared;
        visible =
            w.visible ∙ sym (append-nil (open_from old.opened.items 0 before.declared))
            ∙ ap (λ ds. open_from old.opened.items 0 before.declared ++ ds) (sym hidden)
            ∙ sym (open_append old.opened.items 0 (length before.declared) before.declared a.added (omega arith))
            ∙ ap (open_from old.opened.items 0) (sym a.declared)
            ∙ ap (λ blocks. open_from blocks 0 (behind_block (opened before) b).declared) (sym back);
        depth = w.depth ∙ ap length (sym back);
        begun = λ k begins is.
            let low = w.begun k begins (ap (λ blocks. slice_get blocks k) (sym back) ∙ is) in
            omega (arith, ap length a.declared, length-append before.declared a.added);
      },
      back,
    )

-- What stands behind a port or an item more mirrors the tree with it, and is as sound.
use Rattle.std.proofs.Common.{◌≡◌, ℕ, ◌+◌, ◌≤◌, Bool, true, false, List, [], ◌∷◌, ◌++◌, map, flat_map, refl, sym, ap, ◌∙◌, ⊎_elim, subst, append-nil, arith}
use Rattle.std.specs.Prelude.{drop}
use Rattle.std.proofs.lemmas.List.{map-append}
use Rattle.std.proofs.lemmas.List.Sums.{sum_by-append}
use Rattle.fir_base.specs.Lists.{In, Distinct}
use Rattle.fir_base.specs.declared.direction.Direction.{Direction}
use Rattle.fir_base.specs.declared.direction.Direction.TheVariants.{Input as InputPort, Output as OutputPort}
use Rattle.fir_base.proofs.Members.{in_either}
use Rattle.fir_base.proofs.Twins.{distinct_joined, distinct_more}
use Rattle.ver_ast.specs.declared.place.VPlace.{VPlace}
use Rattle.ver_ast.specs.declared.tree.Verilog.{Verilog}
use Rattle.ver_ast.specs.declared.tree.Port.{Port}
use Rattle.ver_ast.specs.declared.tree.Write.{Write}
use Rattle.ver_ast.specs.declared.tree.Item.{Item}
use Rattle.ver_ast.specs.declared.tree.Item.TheVariants as item
use Rattle.ver_ast.specs.Nets.{Variable, arrays, block_target, first_array, item_array, plain_block, resetting_block, writing_block}
use Rattle.ver_valid.specs.declared.declared.Declared.{Declared}
use Rattle.ver_valid.specs.working.Declarations.{Entry, IsNarrowKind, entries, entry_names, item_entries, kind_of as port_kind_of, port_entry}
use Rattle.ver_valid.specs.working.Scopes.{IsFine}
use Rattle.ver_valid.specs.working.Walks.{IsFresh, IsNextItem, IsNextNet, IsNextPort, assigned_names, item_target, item_written, with_items, with_ports, words_of, written_names}
use Rattle.ver_valid.proofs.Steps.{arrays_more, assigned_more, entries_more, written_more}
use Rattle.ver_check.specs.declared.kind.Kind.{Kind}
use Rattle.ver_check.specs.Scopes.{Declaration}
use Rattle.ver_check.specs.ItemFaults.{Before, Driver}
use Rattle.ver_check.specs.TreeFaults.{behind_item, behind_port, behind_writes, kind_by}
use Rattle.ver_check.proofs.Mirrors.{Mirrors, driver_names, kind_as, named, named_entry}

-- what holds of what stands before, beside the tree of it
pub record Stands (before : Before) (v : Verilog) : Type 0 where
  pub mirrors : Mirrors before v
  pub fine : IsFine v
  pub few : words_of (arrays v) ≤ 4194304
  pub assigned_once : Distinct (assigned_names v)
  pub written_once : Distinct (written_names v)

-- what an item adds
pub record Adds (before after : Before) (i : Item) : Type 0 where
  pub declarations : List Declaration
  pub assigned : List Driver
  pub written : List Driver
  pub scope_more : after.scope ≡ before.scope ++ declarations
  pub declared : map named declarations ≡ map named_entry (item_entries i)
  pub assigned_more : after.assigned ≡ before.assigned ++ assigned
  pub assigns : driver_names assigned ≡ item_target i
  pub written_more : after.written ≡ before.written ++ written
  pub writes : driver_names written ≡ item_written i
  pub words : after.words ≡ before.words + words_of (item_array i)

both_mapped : {S T U : Type 0} (f : S → U) (g : T → U) (xs more all : List S) (ys others whole : List T) → all ≡ xs ++ more → whole ≡ ys ++ others
    → map f xs ≡ map g ys → map f more ≡ map g others → map f all ≡ map g whole
both_mapped {S} {T} {U} f g xs more all ys others whole e h front back =
    ap (map f) e ∙ map-append f xs more ∙ ap (λ (us : List U). us ++ map f more) front ∙ ap (λ (us : List U). map g ys ++ us) back
    ∙ sym (map-append g ys others) ∙ ap (map g) (sym h)

both_named : (xs more all : List Driver) (ns others whole : List (List ℕ)) → all ≡ xs ++ more → whole ≡ ns ++ others → driver_names xs ≡ ns → driver_names more ≡ others
    → driver_names all ≡ whole
both_named xs more all ns others whole e h front back =
    ap driver_names e ∙ map-append (λ (d : Driver). d.name) xs more ∙ ap (λ us. us ++ driver_names more) front ∙ ap (λ us. ns ++ us) back ∙ sym h

pub mirrors_more : (before after : Before) (v : Verilog) (i : Item) → Mirrors before v → Adds before after i → Mirrors after (with_items v (i ∷ []))
mirrors_more before after v i m a = record {
  scope =
      both_mapped named named_entry before.scope a.declarations after.scope (entries v) (item_entries i) (entries (with_items v (i ∷ []))) a.scope_more
      (entries_more v i) m.scope a.declared;
  assigned =
      both_named before.assigned a.assigned after.assigned (assigned_names v) (item_target i) (assigned_names (with_items v (i ∷ []))) a.assigned_more
      (assigned_more v i) m.assigned a.assigns;
  written =
      both_named before.written a.written after.written (written_names v) (item_written i) (written_names (with_items v (i ∷ []))) a.written_more
      (written_more v i) m.written a.writes;
  words =
      a.words ∙ ap (λ (x : ℕ). x + words_of (item_array i)) m.words
      ∙ sym (ap words_of (arrays_more v i) ∙ sum_by-append (λ (k : Variable). k.depth) (arrays v) (item_array i));
}

no_more : {T : Type 0} (xs : List T) → xs ≡ xs ++ []
no_more xs = sym (append-nil xs)

no_words : (x : ℕ) → x ≡ x + 0
no_words x = omega arith

abbrev one_written : Before → List ℕ → VPlace → Before
one_written before n p = record before { written = before.written ++ record { name = n; place = p } ∷ [] }

adds_written : (before : Before) (i : Item) (n : List ℕ) (p : VPlace) → item_entries i ≡ [] → item_target i ≡ [] → item_written i ≡ n ∷ [] → item_array i ≡ []
    → Adds before (one_written before n p) i
adds_written before i n p entry target write words = record {
  declarations = [];
  assigned = [];
  written = record { name = n; place = p } ∷ [];
  scope_more = no_more before.scope;
  declared = ap (map named_entry) (sym entry);
  assigned_more = no_more before.assigned;
  assigns = sym target;
  written_more = refl;
  writes = sym write;
  words = no_words before.words ∙ ap (λ (ks : List Variable). before.words + words_of ks) (sym words);
}

adds_writes : (before : Before) (i : Item) (ws : List Write) (ps : List VPlace) → item_entries i ≡ [] → item_target i ≡ [] → item_written i ≡ first_array ws
    → item_array i ≡ [] → Adds before (behind_writes before ws ps) i
adds_writes before i [] ps entry target write words = record {
  declarations = [];
  assigned = [];
  written = [];
  scope_more = no_more before.scope;
  declared = ap (map named_entry) (sym entry);
  assigned_more = no_more before.assigned;
  assigns = sym target;
  written_more = no_more before.written;
  writes = sym write;
  words = no_words before.words ∙ ap (λ (ks : List Variable). before.words + words_of ks) (sym words);
}
adds_writes before i (w ∷ ws) ps entry target write words = adds_written before i w.array _ entry target write words

adds_declared : (before : Before) (i : Item) (d : Declaration) (more : ℕ) → map named (d ∷ []) ≡ map named_entry (item_entries i) → item_target i ≡ []
    → item_written i ≡ [] → words_of (item_array i) ≡ more → Adds before (record before { scope = before.scope ++ d ∷ []; words = before.words + more }) i
adds_declared before i d more entry target write words = record {
  declarations = d ∷ [];
  assigned = [];
  written = [];
  scope_more = refl;
  declared = entry;
  assigned_more = no_more before.assigned;
  assigns = sym target;
  written_more = no_more before.written;
  writes = sym write;
  words = ap (λ (x : ℕ). before.words + x) (sym words);
}

adds_net : (before : Before) (i : Item) (d : Declaration) → map named (d ∷ []) ≡ map named_entry (item_entries i) → item_target i ≡ []
    → item_written i ≡ [] → item_array i ≡ [] → Adds before (record before { scope = before.scope ++ d ∷ [] }) i
adds_net before i d entry target write words = record {
  declarations = d ∷ [];
  assigned = [];
  written = [];
  scope_more = refl;
  declared = entry;
  assigned_more = no_more before.assigned;
  assigns = sym target;
  written_more = no_more before.written;
  writes = sym write;
  words = no_words before.words ∙ ap (λ (ks : List Variable). before.words + words_of ks) (sym words);
}

pub adds : (before : Before) (i : Item) (ps : List VPlace) → Adds before (behind_item before i ps) i
adds before (item.Wire n) ps = adds_net before (item.Wire n) _ refl refl refl refl
adds before (item.Reg n) ps = adds_net before (item.Reg n) _ refl refl refl refl
adds before (item.Array a) ps = adds_declared before (item.Array a) _ (a.last + 1) refl refl refl (let own : words_of (item_array (item.Array a)) ≡ 0 + (a.last + 1) = refl in omega arith)
adds before (item.Assign a) ps = record {
  declarations = [];
  assigned = record { name = a.target; place = _ } ∷ [];
  written = [];
  scope_more = no_more before.scope;
  declared = refl;
  assigned_more = refl;
  assigns = refl;
  written_more = no_more before.written;
  writes = refl;
  words = no_words before.words;
}
adds before (item.Always b) ps = adds_written before (item.Always b) b.target _ refl refl refl refl
adds before (item.Resetting b) ps = adds_written before (item.Resetting b) b.target _ refl refl refl refl
adds before (item.Writing b) ps = adds_writes before (item.Writing b) b.writes (drop 4 ps) refl refl (append-nil (first_array b.writes)) refl

-- entries each with a name of its own and a width that it can have
abbrev AreFine : List Entry → Type 0
AreFine es = Distinct (entry_names es) × ((e : Entry) → In es e → IsNarrowKind e.1)

fine_of : (v : Verilog) (es : List Entry) → entries v ≡ es → AreFine es → IsFine v
fine_of v es e h = record { once = subst (λ (xs : List Entry). Distinct (entry_names xs)) (sym e) h.0; narrow = λ x m. h.1 x (subst (λ (xs : List Entry). In xs x) e m) }

one_more_entry : (es : List Entry) (n : List ℕ) (d : Declared) → AreFine es → (In (entry_names es) n → ⊥) → IsNarrowKind d → AreFine (es ++ (n, d) ∷ [])
one_more_entry es n d h new narrow = (
  subst Distinct (sym (map-append (λ (e : Entry). e.0) es ((n, d) ∷ []))) (distinct_more (entry_names es) n h.0 new),
  λ e m.
      ⊎_elim
      (λ (i : In es e). h.1 e i)
      (λ (i : In ((n, d) ∷ []) e). ⊎_elim (λ (s : ◌≡◌ {A = Entry} (n, d) e). subst (λ (x : Entry). IsNarrowKind x.1) s narrow) (λ (o : ⊥). absurd o) i)
      (in_either es ((n, d) ∷ []) e m),
)

fine_entries : (v : Verilog) → IsFine v → AreFine (entries v)
fine_entries v f = (f.once, f.narrow)

module _ (v : Verilog) (fine : IsFine v) (i : Item) where
  abbrev next : Verilog
  next = with_items v (i ∷ [])

  same_fine : item_entries i ≡ [] → IsFine next
  same_fine e = fine_of next (entries v) (entries_more v i ∙ ap (λ es. entries v ++ es) e ∙ append-nil (entries v)) (fine_entries v fine)

  fine_one : (n : List ℕ) (d : Declared) → item_entries i ≡ (n, d) ∷ [] → IsFresh v n → IsNarrowKind d → IsFine next
  fine_one n d e new narrow =
      fine_of next (entries v ++ (n, d) ∷ []) (entries_more v i ∙ ap (λ es. entries v ++ es) e) (one_more_entry (entries v) n d (fine_entries v fine) new narrow)

-- what an item is behind those before it, but for what it reads
abbrev pub IsNew : Verilog → Item → Type 0
IsNew v (item.Wire n) = IsNextNet v n.name n.width
IsNew v (item.Reg n) = IsNextNet v n.name n.width
IsNew v (item.Array a) = IsNextNet v a.name a.width × (words_of (arrays v) + (a.last + 1) ≤ 4194304)
IsNew v (item.Assign a) = In (assigned_names v) a.target → ⊥
IsNew v (item.Always b) = (n : List ℕ) → In (block_target (plain_block b)) n → In (written_names v) n → ⊥
IsNew v (item.Resetting b) = (n : List ℕ) → In (block_target (resetting_block b)) n → In (written_names v) n → ⊥
IsNew v (item.Writing b) = (n : List ℕ) → In (block_target (writing_block b)) n → In (written_names v) n → ⊥

pub next_new : (v : Verilog) (i : Item) → IsNextItem v i → IsNew v i
next_new v (item.Wire n) h = h
next_new v (item.Reg n) h = h
next_new v (item.Array a) h = h
next_new v (item.Assign a) h = h.1
next_new v (item.Always b) h = h.1
next_new v (item.Resetting b) h = h.1
next_new v (item.Writing b) h = h.1

fine_more : (v : Verilog) (i : Item) → IsFine v → IsNew v i → IsFine (with_items v (i ∷ []))
fine_more v (item.Wire n) f h = fine_one v f (item.Wire n) n.name _ refl h.0 h.1
fine_more v (item.Reg n) f h = fine_one v f (item.Reg n) n.name _ refl h.0 h.1
fine_more v (item.Array a) f h = fine_one v f (item.Array a) a.name _ refl h.0.0 h.0.1
fine_more v (item.Assign a) f h = same_fine v f (item.Assign a) refl
fine_more v (item.Always b) f h = same_fine v f (item.Always b) refl
fine_more v (item.Resetting b) f h = same_fine v f (item.Resetting b) refl
fine_more v (item.Writing b) f h = same_fine v f (item.Writing b) refl

-- names that are driven once, with those of an item that drives none of them
names_once : (ns more all : List (List ℕ)) → all ≡ ns ++ more → Distinct ns → Distinct more → ((n : List ℕ) → In more n → In ns n → ⊥) → Distinct all
names_once ns more all e d own apart = subst Distinct (sym e) (distinct_joined ns more d own (λ n m k. apart n k m))

target_once : (i : Item) → Distinct (item_target i)
target_once (item.Assign a) = (λ m. m, tt)
target_once _ = tt

first_once : (ws : List Write) → Distinct (first_array ws)
first_once [] = tt
first_once (w ∷ ws) = (λ m. m, tt)

written_once : (i : Item) → Distinct (item_written i)
written_once (item.Always b) = (λ m. m, tt)
written_once (item.Resetting b) = (λ m. m, tt)
written_once (item.Writing b) = subst Distinct (sym (append-nil (first_array b.writes))) (first_once b.writes)
written_once (item.Wire n) = tt
written_once (item.Reg n) = tt
written_once (item.Array a) = tt
written_once (item.Assign a) = tt

new_target : (v : Verilog) (i : Item) → IsNew v i → (n : List ℕ) → In (item_target i) n → In (assigned_names v) n → ⊥
new_target v (item.Assign a) h n m k = ⊎_elim (λ (e : a.target ≡ n). h (subst (In (assigned_names v)) (sym e) k)) (λ (o : ⊥). o) m
new_target v (item.Wire x) h n m k = m
new_target v (item.Reg x) h n m k = m
new_target v (item.Array a) h n m k = m
new_target v (item.Always b) h n m k = m
new_target v (item.Resetting b) h n m k = m
new_target v (item.Writing b) h n m k = m

new_written : (v : Verilog) (i : Item) → IsNew v i → (n : List ℕ) → In (item_written i) n → In (written_names v) n → ⊥
new_written v (item.Always b) h n m k = h n m k
new_written v (item.Resetting b) h n m k = h n m k
new_written v (item.Writing b) h n m k = h n (subst (λ ns. In ns n) (append-nil (first_array b.writes)) m) k
new_written v (item.Wire x) h n m k = m
new_written v (item.Reg x) h n m k = m
new_written v (item.Array a) h n m k = m
new_written v (item.Assign a) h n m k = m

few_more : (v : Verilog) (i : Item) → IsNew v i → words_of (arrays v) ≤ 4194304 → words_of (arrays v) + words_of (item_array i) ≤ 4194304
few_more v (item.Array a) h few = let room = h.1 in let own : words_of (item_array (item.Array a)) ≡ 0 + (a.last + 1) = refl in omega arith
few_more v (item.Wire n) h few = omega arith
few_more v (item.Reg n) h few = omega arith
few_more v (item.Assign a) h few = omega arith
few_more v (item.Always b) h few = omega arith
few_more v (item.Resetting b) h few = omega arith
few_more v (item.Writing b) h few = omega arith

pub stands_more : (before : Before) (v : Verilog) (i : Item) (ps : List VPlace) → Stands before v → IsNew v i → Stands (behind_item before i ps) (with_items v (i ∷ []))
stands_more before v i ps s h = record {
  mirrors = mirrors_more before (behind_item before i ps) v i s.mirrors (adds before i ps);
  fine = fine_more v i s.fine h;
  few =
      subst (λ (x : ℕ). x ≤ 4194304) (sym (ap words_of (arrays_more v i) ∙ sum_by-append (λ (k : Variable). k.depth) (arrays v) (item_array i))) (few_more v i h s.few);
  assigned_once = names_once (assigned_names v) (item_target i) (assigned_names (with_items v (i ∷ []))) (assigned_more v i) s.assigned_once (target_once i) (new_target v i h);
  written_once = names_once (written_names v) (item_written i) (written_names (with_items v (i ∷ []))) (written_more v i) s.written_once (written_once i) (new_written v i h);
}

-- a port of a tree without items
entries_port : (v : Verilog) (p : Port) → v.items ≡ [] → entries (with_ports v (p ∷ [])) ≡ entries v ++ port_entry p ∷ []
entries_port v p none =
    ap (λ is. map port_entry (v.ports ++ p ∷ []) ++ flat_map item_entries is) none ∙ append-nil (map port_entry (v.ports ++ p ∷ []))
    ∙ map-append port_entry v.ports (p ∷ [])
    ∙ ap (λ es. es ++ port_entry p ∷ []) (sym (ap (λ is. map port_entry v.ports ++ flat_map item_entries is) none ∙ append-nil (map port_entry v.ports)))

port_kind_as : (b : Bool) (d : Direction) (w : ℕ) → kind_by b d w ≡ kind_as (port_kind_of b d w)
port_kind_as true InputPort w = refl
port_kind_as true OutputPort w = refl
port_kind_as false InputPort w = refl
port_kind_as false OutputPort w = refl

pub stands_port : (before : Before) (v : Verilog) (p : Port) (ps : List VPlace) → v.items ≡ [] → Stands before v → IsNextPort v p
    → Stands (behind_port before p ps) (with_ports v (p ∷ []))
stands_port before v p ps none s h = record {
  mirrors = record {
    scope =
        both_mapped named named_entry before.scope _ (behind_port before p ps).scope (entries v) (port_entry p ∷ []) (entries (with_ports v (p ∷ []))) refl
        (entries_port v p none) s.mirrors.scope (ap (λ (k : Kind). (p.name, k) ∷ []) (port_kind_as p.is_clock p.direction p.width));
    assigned = s.mirrors.assigned;
    written = s.mirrors.written;
    words = s.mirrors.words;
  };
  fine =
      fine_of (with_ports v (p ∷ [])) (entries v ++ port_entry p ∷ []) (entries_port v p none)
      (one_more_entry (entries v) p.name _ (fine_entries v s.fine) h.fresh h.narrow);
  few = s.few;
  assigned_once = s.assigned_once;
  written_once = s.written_once;
}

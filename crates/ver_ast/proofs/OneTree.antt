-- A text spells one tree at most.
use Rattle.std.proofs.Common.{◌≡◌, ℕ, ◌-◌, List, [], ◌∷◌, ◌++◌, map, Bool, true, false, refl, sym, ap, ◌∙◌, arith, append_assoc, eqb, inl, inr, ◌⊎◌, ⊎_elim}
use Rattle.std.specs.Prelude.{flat_map, codes, if◌then◌else◌, Option, Some, None}
use Rattle.std.specs.List.{AllByRecursion}
use Rattle.fir_base.specs.declared.direction.Direction.{Direction}
use Rattle.fir_base.specs.declared.direction.Direction.TheVariants.{Input, Output}
use Rattle.ver_ast.specs.declared.tree.Verilog.{Verilog}
use Rattle.ver_ast.specs.declared.tree.Port.{Port}
use Rattle.ver_ast.specs.declared.tree.Net.{Net}
use Rattle.ver_ast.specs.declared.tree.Array.{Array}
use Rattle.ver_ast.specs.declared.tree.Always.{Always}
use Rattle.ver_ast.specs.declared.tree.Edge.{Edge}
use Rattle.ver_ast.specs.declared.tree.Resetting.{Resetting}
use Rattle.ver_ast.specs.declared.tree.Write.{Write}
use Rattle.ver_ast.specs.declared.tree.Writing.{Writing}
use Rattle.ver_ast.specs.declared.tree.Item.{Item}
use Rattle.ver_ast.specs.declared.tree.Item.TheVariants as item
use Rattle.ver_ast.specs.AtomForms.{number_of, constant_number}
use Rattle.ver_ast.specs.Tokens.{VToken, word, number, constant, sign, double}
use Rattle.ver_ast.specs.Spells.{places_of, IsInType, HasNumberInType, VSpells}
use Rattle.ver_ast.specs.Grammar.{mark_tokens, edge_tokens, else_tokens, write_tokens, direction_keyword, atom_tokens, rhs_tokens, item_tokens, module_tokens}
use Rattle.ver_ast.proofs.OnePlace.{one_place}
use Rattle.ver_ast.proofs.Loosened.{counting, alike_tokens, loose_range, loose_port, loose_next_port, loose_ports, loose_item, loose_module, module_loosened}
use Rattle.ver_ast.proofs.OneAtom.{front, same_apart_from, split_atom}
use Rattle.ver_ast.proofs.OneRhs.{split_rhs, split_last}

-- the tokens of a range where it is known whether the width is 1
abbrev range_at : Bool → ℕ → List VToken
range_at one width = if one then [] else (sign 91 ∷ number (width - 1) ∷ sign 58 ∷ number 0 ∷ sign 93 ∷ [])

split_at : (b c : Bool) (w u : ℕ) (n m : List ℕ) (r s : List VToken) → range_at b w ++ word n ∷ r ≡ range_at c u ++ word m ∷ s
    → (b ≡ c) × (b ≡ false → w - 1 ≡ u - 1) × (n ≡ m) × (r ≡ s)
split_at true true w u n m r s e = (refl, λ h. absurd (cc), (cc), (cc))
split_at true false w u n m r s e = absurd (cc)
split_at false true w u n m r s e = absurd (cc)
split_at false false w u n m r s e = (refl, λ h. (cc), (cc), (cc))

same_width : (w u : ℕ) → eqb w 1 ≡ eqb u 1 → (eqb w 1 ≡ false → w - 1 ≡ u - 1) → w ≡ u
same_width w u e h = same_apart_from 1 w u e (λ f p q. let same : w - 1 ≡ u - 1 = h f in omega arith)

-- a range and a name
split_sized : (w u : ℕ) (n m : List ℕ) (r s : List VToken) → loose_range w ++ word n ∷ r ≡ loose_range u ++ word m ∷ s → (w ≡ u) × (n ≡ m) × (r ≡ s)
split_sized w u n m r s e = let t = split_at (eqb w 1) (eqb u 1) w u n m r s e in (same_width w u t.0 t.1, t.2, t.3)

split_direction : (d e : Direction) (r s : List VToken) → word (direction_keyword d) ∷ r ≡ word (direction_keyword e) ∷ s → (d ≡ e) × (r ≡ s)
split_direction Input Input r s h = (refl, (cc))
split_direction Input Output r s h = absurd (omega (arith, ap front h))
split_direction Output Input r s h = absurd (omega (arith, ap front h))
split_direction Output Output r s h = (refl, (cc))

-- a port's mark and direction
split_mark : (b c : Bool) (d f : Direction) (r s : List VToken)
    → mark_tokens b ++ word (direction_keyword d) ∷ r ≡ mark_tokens c ++ word (direction_keyword f) ∷ s → (b ≡ c) × (d ≡ f) × (r ≡ s)
split_mark true true d f r s e =
    let tails : word (direction_keyword d) ∷ r ≡ word (direction_keyword f) ∷ s = cc in
    let t = split_direction d f _ _ tails in
    (refl, t.0, t.1)
split_mark true false d f r s e = absurd (cc)
split_mark false true d f r s e = absurd (cc)
split_mark false false d f r s e = let t = split_direction d f _ _ e in (refl, t.0, t.1)

mark_is_no_end : (b : Bool) (d : Direction) (r s : List VToken) → mark_tokens b ++ word (direction_keyword d) ∷ r ≡ sign 41 ∷ s → ⊥
mark_is_no_end true d r s e = cc
mark_is_no_end false d r s e = cc

port_grouped : (p : Port) (r : List VToken)
    → loose_port p ++ r ≡ mark_tokens p.is_clock ++ word (direction_keyword p.direction) ∷ (loose_range p.width ++ word p.name ∷ r)
port_grouped p r = simp append_assoc

split_port : (p q : Port) (r s : List VToken) → loose_port p ++ r ≡ loose_port q ++ s → (p ≡ q) × (r ≡ s)
split_port p q r s e =
    let t = split_mark p.is_clock q.is_clock p.direction q.direction _ _ (sym (port_grouped p r) ∙ e ∙ port_grouped q s) in
    let u = split_sized p.width q.width p.name q.name r s t.2 in
    let same : p ≡ q = rw (t.0, t.1, u.0, u.1) refl in
    (same, u.2)

port_is_no_end : (p : Port) (r s : List VToken) → loose_port p ++ r ≡ sign 41 ∷ s → ⊥
port_is_no_end p r s e = mark_is_no_end p.is_clock p.direction _ s (sym (port_grouped p r) ∙ e)

-- the ports behind the first, up to the closing parenthesis
split_next_ports : (ps qs : List Port) (r s : List VToken) → flat_map loose_next_port ps ++ sign 41 ∷ r ≡ flat_map loose_next_port qs ++ sign 41 ∷ s
    → (ps ≡ qs) × (r ≡ s)
split_next_ports [] [] r s e = (refl, (cc))
split_next_ports [] (q ∷ qs) r s e = absurd (omega (arith, ap front e))
split_next_ports (p ∷ ps) [] r s e = absurd (omega (arith, ap front e))
split_next_ports (p ∷ ps) (q ∷ qs) r s e =
    let grouped_p = append_assoc (loose_next_port p) (flat_map loose_next_port ps) (sign 41 ∷ r) in
    let grouped_q = append_assoc (loose_next_port q) (flat_map loose_next_port qs) (sign 41 ∷ s) in
    let whole = sym grouped_p ∙ e ∙ grouped_q in
    let behind : loose_port p ++ (flat_map loose_next_port ps ++ sign 41 ∷ r) ≡ loose_port q ++ (flat_map loose_next_port qs ++ sign 41 ∷ s) = cc in
    let t = split_port p q _ _ behind in
    let rest = split_next_ports ps qs r s t.1 in
    (rw (t.0, rest.0) refl, rest.1)

split_ports : (ps qs : List Port) (r s : List VToken) → loose_ports ps ++ sign 41 ∷ r ≡ loose_ports qs ++ sign 41 ∷ s → (ps ≡ qs) × (r ≡ s)
split_ports [] [] r s e = (refl, (cc))
split_ports [] (q ∷ qs) r s e = absurd (port_is_no_end q _ r (sym (e ∙ append_assoc (loose_port q) (flat_map loose_next_port qs) (sign 41 ∷ s))))
split_ports (p ∷ ps) [] r s e = absurd (port_is_no_end p _ s (sym (append_assoc (loose_port p) (flat_map loose_next_port ps) (sign 41 ∷ r)) ∙ e))
split_ports (p ∷ ps) (q ∷ qs) r s e =
    let grouped_p = append_assoc (loose_port p) (flat_map loose_next_port ps) (sign 41 ∷ r) in
    let grouped_q = append_assoc (loose_port q) (flat_map loose_next_port qs) (sign 41 ∷ s) in
    let t = split_port p q _ _ (sym grouped_p ∙ e ∙ grouped_q) in
    let rest = split_next_ports ps qs r s t.1 in
    (rw (t.0, rest.0) refl, rest.1)

-- what is declared, up to the semicolon
split_net : (n m : Net) (r s : List VToken)
    → (loose_range n.width ++ word n.name ∷ sign 59 ∷ []) ++ r ≡ (loose_range m.width ++ word m.name ∷ sign 59 ∷ []) ++ s → (n ≡ m) × (r ≡ s)
split_net n m r s e =
    let grouped_n = append_assoc (loose_range n.width) (word n.name ∷ sign 59 ∷ []) r in
    let grouped_m = append_assoc (loose_range m.width) (word m.name ∷ sign 59 ∷ []) s in
    let t = split_sized n.width m.width n.name m.name _ _ (sym grouped_n ∙ e ∙ grouped_m) in
    let same : n ≡ m = rw (t.0, t.1) refl in
    let rest : sign 59 ∷ r ≡ sign 59 ∷ s = t.2 in
    (same, (cc))

split_array : (a b : Array) (r s : List VToken)
    → (loose_range a.width ++ word a.name ∷ sign 91 ∷ number 0 ∷ sign 58 ∷ number a.last ∷ sign 93 ∷ sign 59 ∷ []) ++ r
    ≡ (loose_range b.width ++ word b.name ∷ sign 91 ∷ number 0 ∷ sign 58 ∷ number b.last ∷ sign 93 ∷ sign 59 ∷ []) ++ s → (a ≡ b) × (r ≡ s)
split_array a b r s e =
    let t = split_sized a.width b.width a.name b.name _ _ (sym (append_assoc (loose_range a.width) _ r) ∙ e ∙ append_assoc (loose_range b.width) _ s) in
    let ends : number a.last ∷ sign 93 ∷ sign 59 ∷ r ≡ number b.last ∷ sign 93 ∷ sign 59 ∷ s = behind_brackets _ _ t.2 in
    let last : a.last ≡ b.last = cc in
    let same : a ≡ b = rw (t.0, t.1, last) refl in
    (same, (cc))
  where
    behind_brackets : (x y : List VToken) → sign 91 ∷ number 0 ∷ sign 58 ∷ x ≡ sign 91 ∷ number 0 ∷ sign 58 ∷ y → x ≡ y
    behind_brackets x y h = cc

reg_is_no_array : (n : Net) (b : Array) (r s : List VToken)
    → (loose_range n.width ++ word n.name ∷ sign 59 ∷ []) ++ r
    ≡ (loose_range b.width ++ word b.name ∷ sign 91 ∷ number 0 ∷ sign 58 ∷ number b.last ∷ sign 93 ∷ sign 59 ∷ []) ++ s → ⊥
reg_is_no_array n b r s e =
    let t = split_sized n.width b.width n.name b.name _ _ (sym (append_assoc (loose_range n.width) _ r) ∙ e ∙ append_assoc (loose_range b.width) _ s) in
    omega (arith, ap front t.2)

-- a write
write_grouped : (w : Write) (r : List VToken) → write_tokens w ++ r ≡ word (codes "if") ∷ sign 40 ∷ (atom_tokens w.condition
    ++ sign 41 ∷ word w.array ∷ sign 91 ∷ (atom_tokens w.index ++ sign 93 ∷ double 60 61 ∷ (atom_tokens w.source ++ sign 59 ∷ r)))
write_grouped w r = simp append_assoc

split_write : (w u : Write) (r s : List VToken) → write_tokens w ++ r ≡ write_tokens u ++ s → (w ≡ u) × (r ≡ s)
split_write w u r s e =
    let whole = sym (write_grouped w r) ∙ e ∙ write_grouped u s in
    let inside : atom_tokens w.condition ++ sign 41 ∷ word w.array ∷ sign 91 ∷ (atom_tokens w.index ++ sign 93 ∷ double 60 61 ∷ (atom_tokens w.source ++ sign 59 ∷ r))
    ≡ atom_tokens u.condition ++ sign 41 ∷ word u.array ∷ sign 91 ∷ (atom_tokens u.index ++ sign 93 ∷ double 60 61 ∷ (atom_tokens u.source ++ sign 59 ∷ s)) = cc in
    let c = split_atom w.condition u.condition _ _ (λ h. omega arith) (λ h. omega arith) inside in
    let ends : sign 41 ∷ word w.array ∷ sign 91 ∷ (atom_tokens w.index ++ sign 93 ∷ double 60 61 ∷ (atom_tokens w.source ++ sign 59 ∷ r))
    ≡ sign 41 ∷ word u.array ∷ sign 91 ∷ (atom_tokens u.index ++ sign 93 ∷ double 60 61 ∷ (atom_tokens u.source ++ sign 59 ∷ s)) = c.1 in
    let array : w.array ≡ u.array = cc in
    let indices : atom_tokens w.index ++ sign 93 ∷ double 60 61 ∷ (atom_tokens w.source ++ sign 59 ∷ r)
    ≡ atom_tokens u.index ++ sign 93 ∷ double 60 61 ∷ (atom_tokens u.source ++ sign 59 ∷ s) = cc in
    let i = split_atom w.index u.index _ _ (λ h. omega arith) (λ h. omega arith) indices in
    let tails : sign 93 ∷ double 60 61 ∷ (atom_tokens w.source ++ sign 59 ∷ r) ≡ sign 93 ∷ double 60 61 ∷ (atom_tokens u.source ++ sign 59 ∷ s) = i.1 in
    let sources : atom_tokens w.source ++ sign 59 ∷ r ≡ atom_tokens u.source ++ sign 59 ∷ s = cc in
    let t = split_last w.source u.source r s sources in
    (rw (c.0, array, i.0, t.0) refl, t.1)

-- writes, up to the end
abbrev writes_tokens : List Write → List VToken → List VToken
writes_tokens ws r = flat_map write_tokens ws ++ word (codes "end") ∷ r

split_writes : (ws us : List Write) (r s : List VToken) → writes_tokens ws r ≡ writes_tokens us s → (ws ≡ us) × (r ≡ s)
split_writes [] [] r s e = (refl, (cc))
split_writes [] (u ∷ us) r s e = absurd (cc)
split_writes (w ∷ ws) [] r s e = absurd (cc)
split_writes (w ∷ ws) (u ∷ us) r s e =
    let t = split_write w u _ _ (sym (append_assoc (write_tokens w) (flat_map write_tokens ws) _) ∙ e ∙ append_assoc (write_tokens u) (flat_map write_tokens us) _) in
    let rest = split_writes ws us r s t.1 in
    (rw (t.0, rest.0) refl, rest.1)

-- what stands behind `begin` is no arrow
writes_front : (ws : List Write) (r : List VToken) → (front (writes_tokens ws r) ≡ 101) ⊎ (front (writes_tokens ws r) ≡ 105)
writes_front [] r = inl refl
writes_front (w ∷ ws) r = inr refl

writing_grouped : (b : Writing) (r : List VToken) → item_tokens (item.Writing b) ++ r
    ≡ word (codes "always") ∷ sign 64 ∷ sign 40 ∷ word (codes "posedge") ∷ word b.clock ∷ sign 41 ∷ word (codes "begin") ∷ writes_tokens b.writes r
writing_grouped b r = simp append_assoc

split_writing : (a b : Writing) (r s : List VToken) → item_tokens (item.Writing a) ++ r ≡ item_tokens (item.Writing b) ++ s → (a ≡ b) × (r ≡ s)
split_writing a b r s e =
    let whole = sym (writing_grouped a r) ∙ e ∙ writing_grouped b s in
    let clock : a.clock ≡ b.clock = cc in
    let tails : writes_tokens a.writes r ≡ writes_tokens b.writes s = cc in
    let t = split_writes a.writes b.writes r s tails in
    let same : a ≡ b = rw (clock, t.0) refl in
    (same, t.1)

-- an asynchronous block, with and without a clock
abbrev head_tokens : List ℕ → List ℕ → List ℕ → List ℕ → List ℕ → ℕ → ℕ → List VToken → List VToken
head_tokens posedge condition reset tested target width value r =
    word posedge ∷ word reset ∷ sign 41 ∷ word condition ∷ sign 40 ∷ word tested ∷ sign 41 ∷ word target ∷ double 60 61 ∷ constant width value ∷ sign 59 ∷ r

abbrev reset_tokens : List ℕ → List ℕ → List ℕ → ℕ → ℕ → Option Edge → List VToken → List VToken
reset_tokens reset tested target width value edge r =
    edge_tokens edge ++ head_tokens (codes "posedge") (codes "if") reset tested target width value (else_tokens edge ++ r)

abbrev block_tokens : Resetting → List VToken → List VToken
block_tokens b r = reset_tokens b.reset b.tested b.target b.value.width (constant_number b.value) b.edge r

resetting_grouped : (b : Resetting) (r : List VToken)
    → item_tokens (item.Resetting b) ++ r ≡ word (codes "always") ∷ sign 64 ∷ sign 40 ∷ block_tokens b r
resetting_grouped b r = simp append_assoc

record SameHead (n m i j t u : List ℕ) (w p x q : ℕ) (r s : List VToken) : Type 0 where
  reset : n ≡ m
  tested : i ≡ j
  target : t ≡ u
  width : w ≡ p
  value : x ≡ q
  rest : r ≡ s

split_head : (k l n m i j t u : List ℕ) (w p x q : ℕ) (r s : List VToken) → head_tokens k l n i t w x r ≡ head_tokens k l m j u p q s
    → SameHead n m i j t u w p x q r s
split_head k l n m i j t u w p x q r s h =
    record { reset = (cc); tested = (cc); target = (cc); width = (cc); value = (cc); rest = (cc) }

split_else : (e f : Edge) (r s : List VToken) → else_tokens (Some e) ++ r ≡ else_tokens (Some f) ++ s → (e.target ≡ f.target) × (e.source ≡ f.source) × (r ≡ s)
split_else e f r s h =
    let target : e.target ≡ f.target = cc in
    let tails : (atom_tokens e.source ++ sign 59 ∷ []) ++ r ≡ (atom_tokens f.source ++ sign 59 ∷ []) ++ s = cc in
    let v = split_last e.source f.source r s (sym (append_assoc (atom_tokens e.source) (sign 59 ∷ []) r) ∙ tails ∙ append_assoc (atom_tokens f.source) (sign 59 ∷ []) s) in
    (target, v.0, v.1)

behind_edge : (k o c d : List ℕ) (x y : List VToken) → word k ∷ word c ∷ word o ∷ x ≡ word k ∷ word d ∷ word o ∷ y → (c ≡ d) × (x ≡ y)
behind_edge k o c d x y h = ((cc), (cc))

-- behind `posedge` and a name stands `or`, or a parenthesis
no_edge : (k l n i t c o : List ℕ) (w x : ℕ) (r s : List VToken) → head_tokens k l n i t w x r ≡ word k ∷ word c ∷ word o ∷ s → ⊥
no_edge k l n i t c o w x r s h = cc

record SameReset (n m i j t u : List ℕ) (w p x q : ℕ) (e f : Option Edge) (r s : List VToken) : Type 0 where
  head : SameHead n m i j t u w p x q (else_tokens e ++ r) (else_tokens f ++ s)
  edge : e ≡ f
  rest : r ≡ s

split_reset : (n m i j t u : List ℕ) (w p x q : ℕ) (e f : Option Edge) (r s : List VToken) → reset_tokens n i t w x e r ≡ reset_tokens m j u p q f s
    → SameReset n m i j t u w p x q e f r s
split_reset n m i j t u w p x q None None r s h =
    let head = split_head _ _ n m i j t u w p x q r s h in
    record { head = head; edge = refl; rest = head.rest }
split_reset n m i j t u w p x q None (Some f) r s h = absurd (no_edge _ _ n i t f.clock _ w x _ _ h)
split_reset n m i j t u w p x q (Some e) None r s h = absurd (no_edge _ _ m j u e.clock _ p q _ _ (sym h))
split_reset n m i j t u w p x q (Some e) (Some f) r s h =
    let clock = behind_edge _ _ e.clock f.clock _ _ h in
    let head = split_head _ _ n m i j t u w p x q _ _ clock.1 in
    let v = split_else e f r s head.rest in
    let same : e ≡ f = rw (clock.0, v.0, v.1) refl in
    record { head = head; edge = ap Some same; rest = v.2 }

same_number : (o p : Option ℕ) → IsInType o → IsInType p → number_of o ≡ number_of p → o ≡ p
same_number None None h k e = refl
same_number None (Some y) h k e = absurd (omega (arith, e, k))
same_number (Some x) None h k e = absurd (omega (arith, e, h))
same_number (Some x) (Some y) h k e = ap Some e

split_resetting : (a b : Resetting) (r s : List VToken) → IsInType a.value.number → IsInType b.value.number
    → item_tokens (item.Resetting a) ++ r ≡ item_tokens (item.Resetting b) ++ s → (a ≡ b) × (r ≡ s)
split_resetting a b r s h k e =
    let whole = sym (resetting_grouped a r) ∙ e ∙ resetting_grouped b s in
    let tails : block_tokens a r ≡ block_tokens b s = cc in
    let t = split_reset a.reset b.reset a.tested b.tested a.target b.target a.value.width b.value.width (constant_number a.value) (constant_number b.value)
    a.edge b.edge r s tails in
    let number = same_number a.value.number b.value.number h k t.head.value in
    let value : a.value ≡ b.value = rw (t.head.width, number) refl in
    let same : a ≡ b = rw (t.head.reset, t.head.tested, t.head.target, value, t.edge) refl in
    (same, t.rest)

-- behind the edges of a block: an arrow, `if` or `begin`
always_is_no_reset : (c t : List ℕ) (n i u : List ℕ) (w x : ℕ) (e : Option Edge) (r s : List VToken)
    → word (codes "posedge") ∷ word c ∷ sign 41 ∷ word t ∷ double 60 61 ∷ r ≡ reset_tokens n i u w x e s → ⊥
always_is_no_reset c t n i u w x None r s h = cc
always_is_no_reset c t n i u w x (Some e) r s h = cc

begin_is_no_reset : (c : List ℕ) (n i u : List ℕ) (w x : ℕ) (e : Option Edge) (r s : List VToken)
    → word (codes "posedge") ∷ word c ∷ sign 41 ∷ word (codes "begin") ∷ r ≡ reset_tokens n i u w x e s → ⊥
begin_is_no_reset c n i u w x None r s h =
    let words : word (codes "begin") ∷ r ≡ word (codes "if") ∷ sign 40 ∷ word i ∷ sign 41 ∷ word u ∷ double 60 61 ∷ constant w x ∷ sign 59 ∷ s = cc in
    omega (arith, ap front words)
begin_is_no_reset c n i u w x (Some e) r s h = cc

arrow_is_no_begin : (ws : List Write) (r s : List VToken) → double 60 61 ∷ r ≡ writes_tokens ws s → ⊥
arrow_is_no_begin ws r s e = ⊎_elim (λ (h : front (writes_tokens ws s) ≡ 101). omega (arith, ap front e, h)) (λ (h : front (writes_tokens ws s) ≡ 105). omega (arith, ap front e, h)) (writes_front ws s)

always_is_no_resetting : (a : Always) (b : Resetting) (r s : List VToken) → item_tokens (item.Always a) ++ r ≡ item_tokens (item.Resetting b) ++ s → ⊥
always_is_no_resetting a b r s e =
    let whole = e ∙ resetting_grouped b s in
    let tails : word (codes "posedge") ∷ word a.clock ∷ sign 41 ∷ word a.target ∷ double 60 61 ∷ ((atom_tokens a.source ++ sign 59 ∷ []) ++ r)
    ≡ block_tokens b s = cc in
    always_is_no_reset a.clock a.target b.reset b.tested b.target b.value.width (constant_number b.value) b.edge _ s tails

writing_is_no_resetting : (a : Writing) (b : Resetting) (r s : List VToken) → item_tokens (item.Writing a) ++ r ≡ item_tokens (item.Resetting b) ++ s → ⊥
writing_is_no_resetting a b r s e =
    let whole = sym (writing_grouped a r) ∙ e ∙ resetting_grouped b s in
    let tails : word (codes "posedge") ∷ word a.clock ∷ sign 41 ∷ word (codes "begin") ∷ writes_tokens a.writes r
    ≡ block_tokens b s = cc in
    begin_is_no_reset a.clock b.reset b.tested b.target b.value.width (constant_number b.value) b.edge _ s tails

always_is_no_writing : (a : Always) (b : Writing) (r s : List VToken) → item_tokens (item.Always a) ++ r ≡ item_tokens (item.Writing b) ++ s → ⊥
always_is_no_writing a b r s e =
    let whole = e ∙ writing_grouped b s in
    let tails : double 60 61 ∷ ((atom_tokens a.source ++ sign 59 ∷ []) ++ r) ≡ writes_tokens b.writes s = cc in
    arrow_is_no_begin b.writes _ s tails

split_item : (i j : Item) (r s : List VToken) → HasNumberInType i → HasNumberInType j → loose_item i ++ r ≡ loose_item j ++ s → (i ≡ j) × (r ≡ s)
split_item (item.Wire n) (item.Wire m) r s h k e =
    let tails : (loose_range n.width ++ word n.name ∷ sign 59 ∷ []) ++ r ≡ (loose_range m.width ++ word m.name ∷ sign 59 ∷ []) ++ s = cc in
    let t = split_net n m r s tails in
    (ap item.Wire t.0, t.1)
split_item (item.Reg n) (item.Reg m) r s h k e =
    let tails : (loose_range n.width ++ word n.name ∷ sign 59 ∷ []) ++ r ≡ (loose_range m.width ++ word m.name ∷ sign 59 ∷ []) ++ s = cc in
    let t = split_net n m r s tails in
    (ap item.Reg t.0, t.1)
split_item (item.Assign a) (item.Assign b) r s h k e =
    let target : a.target ≡ b.target = cc in
    let tails : (rhs_tokens a.rhs ++ sign 59 ∷ []) ++ r ≡ (rhs_tokens b.rhs ++ sign 59 ∷ []) ++ s = cc in
    let grouped_a = append_assoc (rhs_tokens a.rhs) (sign 59 ∷ []) r in
    let grouped_b = append_assoc (rhs_tokens b.rhs) (sign 59 ∷ []) s in
    let t = split_rhs a.rhs b.rhs r s (sym grouped_a ∙ tails ∙ grouped_b) in
    let same : a ≡ b = rw (target, t.0) refl in
    (ap item.Assign same, t.1)
split_item (item.Always a) (item.Always b) r s h k e =
    let clock : a.clock ≡ b.clock = cc in
    let target : a.target ≡ b.target = cc in
    let tails : (atom_tokens a.source ++ sign 59 ∷ []) ++ r ≡ (atom_tokens b.source ++ sign 59 ∷ []) ++ s = cc in
    let grouped_a = append_assoc (atom_tokens a.source) (sign 59 ∷ []) r in
    let grouped_b = append_assoc (atom_tokens b.source) (sign 59 ∷ []) s in
    let t = split_last a.source b.source r s (sym grouped_a ∙ tails ∙ grouped_b) in
    let same : a ≡ b = rw (clock, target, t.0) refl in
    (ap item.Always same, t.1)
split_item (item.Array a) (item.Array b) r s h k e =
    let tails : (loose_range a.width ++ word a.name ∷ sign 91 ∷ number 0 ∷ sign 58 ∷ number a.last ∷ sign 93 ∷ sign 59 ∷ []) ++ r
    ≡ (loose_range b.width ++ word b.name ∷ sign 91 ∷ number 0 ∷ sign 58 ∷ number b.last ∷ sign 93 ∷ sign 59 ∷ []) ++ s = cc in
    let t = split_array a b r s tails in
    (ap item.Array t.0, t.1)
split_item (item.Reg n) (item.Array b) r s h k e = absurd (reg_is_no_array n b r s (cc))
split_item (item.Array a) (item.Reg m) r s h k e = absurd (reg_is_no_array m a s r (cc))
split_item (item.Resetting a) (item.Resetting b) r s h k e = let t = split_resetting a b r s h k e in (ap item.Resetting t.0, t.1)
split_item (item.Writing a) (item.Writing b) r s h k e = let t = split_writing a b r s e in (ap item.Writing t.0, t.1)
split_item (item.Always a) (item.Resetting b) r s h k e = absurd (always_is_no_resetting a b r s e)
split_item (item.Resetting b) (item.Always a) r s h k e = absurd (always_is_no_resetting a b s r (sym e))
split_item (item.Writing a) (item.Resetting b) r s h k e = absurd (writing_is_no_resetting a b r s e)
split_item (item.Resetting b) (item.Writing a) r s h k e = absurd (writing_is_no_resetting a b s r (sym e))
split_item (item.Always a) (item.Writing b) r s h k e = absurd (always_is_no_writing a b r s e)
split_item (item.Writing b) (item.Always a) r s h k e = absurd (always_is_no_writing a b s r (sym e))
split_item (item.Assign a) (item.Always b) r s h k e = absurd (cc)
split_item (item.Always a) (item.Assign b) r s h k e = absurd (cc)
split_item (item.Assign a) (item.Resetting b) r s h k e = absurd (cc)
split_item (item.Resetting a) (item.Assign b) r s h k e = absurd (cc)
split_item (item.Assign a) (item.Writing b) r s h k e = absurd (cc)
split_item (item.Writing a) (item.Assign b) r s h k e = absurd (cc)
split_item i j r s h k e = absurd (omega (arith, ap front e))

-- the items, up to the end
abbrev body_tokens : List Item → List VToken
body_tokens is = flat_map loose_item is ++ word (codes "endmodule") ∷ []

item_is_no_end : (i : Item) (r : List VToken) → loose_item i ++ r ≡ body_tokens [] → ⊥
item_is_no_end (item.Wire n) r e = omega (arith, ap front e)
item_is_no_end (item.Reg n) r e = omega (arith, ap front e)
item_is_no_end (item.Assign a) r e = omega (arith, ap front e)
item_is_no_end (item.Always b) r e = omega (arith, ap front e)
item_is_no_end (item.Array a) r e = omega (arith, ap front e)
item_is_no_end (item.Resetting b) r e = omega (arith, ap front e)
item_is_no_end (item.Writing b) r e = omega (arith, ap front e)

body_grouped : (i : Item) (is : List Item) → body_tokens (i ∷ is) ≡ loose_item i ++ body_tokens is
body_grouped i is = append_assoc (loose_item i) (flat_map loose_item is) (word (codes "endmodule") ∷ [])

split_items : (is js : List Item) → AllByRecursion HasNumberInType is → AllByRecursion HasNumberInType js → body_tokens is ≡ body_tokens js → is ≡ js
split_items [] [] h k e = refl
split_items [] (j ∷ js) h k e = absurd (item_is_no_end j _ (sym (e ∙ body_grouped j js)))
split_items (i ∷ is) [] h k e = absurd (item_is_no_end i _ (sym (body_grouped i is) ∙ e))
split_items (i ∷ is) (j ∷ js) h k e =
    let t = split_item i j _ _ h.0 k.0 (sym (body_grouped i is) ∙ e ∙ body_grouped j js) in
    rw (t.0, split_items is js h.1 k.1 t.1) refl

-- the tokens in groups from the right
module_grouped : (v : Verilog)
    → loose_module v ≡ word (codes "module") ∷ word v.name ∷ sign 40 ∷ (loose_ports v.ports ++ sign 41 ∷ sign 59 ∷ body_tokens v.items)
module_grouped v = simp append_assoc

same_tree : (v u : Verilog) → AllByRecursion HasNumberInType v.items → AllByRecursion HasNumberInType u.items → v.places ≡ u.places
    → loose_module v ≡ loose_module u → v ≡ u
same_tree v u h k places e =
    let whole = sym (module_grouped v) ∙ e ∙ module_grouped u in
    let name : v.name ≡ u.name = cc in
    let tails : loose_ports v.ports ++ sign 41 ∷ sign 59 ∷ body_tokens v.items ≡ loose_ports u.ports ++ sign 41 ∷ sign 59 ∷ body_tokens u.items =
    cc in
    let t = split_ports v.ports u.ports _ _ tails in
    let rest : sign 59 ∷ body_tokens v.items ≡ sign 59 ∷ body_tokens u.items = t.1 in
    let ends : body_tokens v.items ≡ body_tokens u.items = cc in
    let items = split_items v.items u.items h k ends in
    rw (name, t.0, items, places) refl

pub one_tree : (bytes : List ℕ) (v u : Verilog) → VSpells bytes v → VSpells bytes u → v ≡ u
one_tree bytes v u h k =
    let same = one_place bytes h.tokens k.tokens h.of_text k.of_text in
    same_tree v u h.numbers k.numbers (h.places_are ∙ ap places_of same ∙ sym k.places_are)
    (sym (module_loosened v) ∙ alike_tokens (module_tokens v) h.tokens h.tokens_are ∙ ap (map (λ t. counting t.token)) same
    ∙ sym (alike_tokens (module_tokens u) k.tokens k.tokens_are) ∙ module_loosened u)

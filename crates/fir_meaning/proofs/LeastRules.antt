-- Rules for widths have one least assignment.
use Rattle.std.proofs.Common.{◌≡◌, ℕ, zero, suc, ◌+◌, ◌-◌, ◌<◌, ◌≤◌, List, [], ◌∷◌, Bool, true, false, nat_lt, nat_le, nat_eq, ◌&&◌, max, if◌then◌else◌, refl, ap, subst, inl, inr, ◌⊎◌, ⊎_elim, arith, le_trans}
use Rattle.std.proofs.lemmas.Bool.{cases_lt}
use Rattle.std.proofs.lemmas.Bool.Decides.{nat_tests}
use Rattle.fir_base.specs.Lists.{In}
use Rattle.fir_bits.specs.declared.operators.PrimOp.{PrimOp}
use Rattle.fir_bits.specs.Widths.{width_of as operation_width_of, counted_width}
use Rattle.fir_bits.specs.working.Laws.{Monotone}
use Rattle.fir_meaning.specs.WidthExpressions.{Widths, Width, known, unknown, single, pair, greater, guarded, width_under, Rule, MeetsRules, IsLeastOf}
use Rattle.fir_meaning.specs.working.WidthLaws.{WidthsGrow, HasLeast, OneLeast, LeastIsWithin}

narrow_le : (a b : Bool) (x : ℕ) → (if a && b && nat_le x 128 then x else 129) ≤ 129
narrow_le a b x = grind (arith, nat_tests)

counted_le : (op : PrimOp) (signed : Bool) (w v n m : ℕ) → counted_width op signed w v n m ≤ 129
counted_le op signed w v n m = narrow_le (nat_le w 128) (nat_le v 128) (operation_width_of op signed w v n m)

guarded_grows : (c d a b : ℕ) → c ≤ d → a ≤ b → b ≤ 129 → (if nat_lt c 129 then a else 129) ≤ (if nat_lt d 129 then b else 129)
guarded_grows c d a b p q r = grind (arith, nat_tests)

guarded_le : (c a : ℕ) → a ≤ 129 → (if nat_lt c 129 then a else 129) ≤ 129
guarded_le c a h = grind (arith, nat_tests)

pub width_le : (e : Width) (w : Widths) → width_under e w ≤ 129
width_le (known n) w = omega arith
width_le (unknown k) w = omega arith
width_le (single op signed a n m) w = counted_le op signed (width_under a w) 0 n m
width_le (pair op signed a b) w = counted_le op signed (width_under a w) (width_under b w) 0 0
width_le (greater a b) w = omega (arith, width_le a w, width_le b w)
width_le (guarded c a) w = guarded_le (width_under c w) (width_under a w) (width_le a w)

pub width_grows : Monotone → WidthsGrow
width_grows law (known n) w v h = omega arith
width_grows law (unknown k) w v h = omega (arith, h k)
width_grows law (single op signed a n m) w v h =
    law op signed (width_under a w) 0 n m (width_under a v) 0 (width_grows law a w v h) (omega arith)
width_grows law (pair op signed a b) w v h =
    law op signed (width_under a w) (width_under b w) 0 0 (width_under a v) (width_under b v) (width_grows law a w v h) (width_grows law b w v h)
width_grows law (greater a b) w v h = omega (arith, width_grows law a w v h, width_grows law b w v h)
width_grows law (guarded c a) w v h =
    guarded_grows (width_under c w) (width_under c v) (width_under a w) (width_under a v) (width_grows law c w v h) (width_grows law a w v h) (width_le a v)

pub one_least : OneLeast
one_least rules w v p q k = omega (arith, p.least v q.meets k, q.least w p.meets k)

pub least_within : Monotone → LeastIsWithin
least_within law rules es w p = (λ s e at. le_trans (width_grows law e w s.0 (p.least s.0 s.1)) (s.2 e at), λ all. (w, p.meets, all))

-- one rule is raised to what it asks for
abbrev raise : Widths → Rule → Widths
raise w r = λ k. if nat_eq k r.number then max (w k) (width_under r.at_least w) else w k

raise_more : (w : Widths) (r : Rule) (k : ℕ) → w k ≤ raise w r k
raise_more w r k = grows (nat_eq k r.number) (w k) (width_under r.at_least w)
  where
    grows : (b : Bool) (x y : ℕ) → x ≤ (if b then max x y else x)
    grows true x y = omega arith
    grows false x y = omega arith

raise_at : (w : Widths) (r : Rule) → width_under r.at_least w ≤ raise w r r.number
raise_at w r = here r.number (w r.number) (width_under r.at_least w)
  where
    here : (k x y : ℕ) → y ≤ (if nat_eq k k then max x y else x)
    here k x y = grind (arith, nat_tests)

raise_below : (w : Widths) (r : Rule) (k n : ℕ) → w k ≤ n → (k ≡ r.number → width_under r.at_least w ≤ n) → raise w r k ≤ n
raise_below w r k n h g = under k r.number (w k) (width_under r.at_least w) h g
  where
    under : (k j x y : ℕ) → x ≤ n → (k ≡ j → y ≤ n) → (if nat_eq k j then max x y else x) ≤ n
    under k j x y p q = grind (arith, nat_tests)

-- how far the unknowns of rules are from the top
room : List Rule → Widths → ℕ
room [] w = 0
room (r ∷ rs) w = (129 - w r.number) + room rs w

room_less : (rs : List Rule) (w v : Widths) → ((k : ℕ) → w k ≤ v k) → room rs v ≤ room rs w
unfolding room
room_less [] w v h = omega arith
room_less (r ∷ rs) w v h = omega (arith, h r.number, room_less rs w v h)

room_falls : (rs : List Rule) (w v : Widths) (r : Rule) → In rs r → ((k : ℕ) → w k ≤ v k) → w r.number < v r.number → v r.number ≤ 129 → room rs v < room rs w
unfolding room
room_falls [] w v r at h less le = absurd at
room_falls (s ∷ rs) w v r (inl e) h less le =
    let f : s.number ≡ r.number = ap (λ (x : Rule). x.number) e in
    let less2 : w s.number < v s.number = rw f less in
    let le2 : v s.number ≤ 129 = rw f le in
    omega (arith, room_less rs w v h)
room_falls (s ∷ rs) w v r (inr at) h less le = omega (arith, h s.number, room_falls rs w v r at h less le)

-- a rule that is not met
record Broken (rules : List Rule) (w : Widths) : Type 0 where
  rule : Rule
  is : In rules rule
  less : w rule.number < width_under rule.at_least w

met_or_not : (rs : List Rule) (w : Widths) → MeetsRules rs w ⊎ Broken rs w
met_or_not [] w = inl (record { each = λ r at. absurd at })
met_or_not (r ∷ rs) w = by (cases_lt (w r.number) (width_under r.at_least w)) (met_or_not rs w)
  where
    by : (w r.number < width_under r.at_least w) ⊎ (width_under r.at_least w ≤ w r.number) → MeetsRules rs w ⊎ Broken rs w → MeetsRules (r ∷ rs) w ⊎ Broken (r ∷ rs) w
    by (inl l) m = inr (record { rule = r; is = inl refl; less = l })
    by (inr g) (inr b) = inr (record { rule = b.rule; is = inr b.is; less = b.less })
    by (inr g) (inl m) = inl (record { each = each })
      where
        each : (s : Rule) → In (r ∷ rs) s → width_under s.at_least w ≤ w s.number
        each s (inl e) = subst (λ (x : Rule). width_under x.at_least w ≤ w x.number) e g
        each s (inr at) = m.each s at

abbrev Under : List Rule → Widths → Type 0
Under rules w = (v : Widths) → MeetsRules rules v → (k : ℕ) → w k ≤ v k

-- what the raise of a broken rule does
record Climbs (rules : List Rule) (w v : Widths) : Type 0 where
  less : room rules v < room rules w
  top : (k : ℕ) → v k ≤ 129
  under : Under rules v

climbs : Monotone → (rules : List Rule) (w : Widths) → ((k : ℕ) → w k ≤ 129) → Under rules w → (b : Broken rules w) → Climbs rules w (raise w b.rule)
climbs law rules w top under b =
    record {
      less = room_falls rules w (raise w b.rule) b.rule b.is (raise_more w b.rule) (omega (arith, b.less, raise_at w b.rule)) (below_top b.rule.number);
      top = below_top;
      under = λ v m k. raise_below w b.rule k (v k) (under v m k) (λ e. rw e (le_trans (width_grows law b.rule.at_least w v (under v m)) (m.each b.rule b.is)));
    }
  where
    below_top : (k : ℕ) → raise w b.rule k ≤ 129
    below_top k = raise_below w b.rule k 129 (top k) (λ e. width_le b.rule.at_least w)

climbed : Monotone → (rules : List Rule) (fuel : ℕ) (w : Widths) → room rules w ≤ fuel → ((k : ℕ) → w k ≤ 129) → Under rules w → (v : Widths) × IsLeastOf rules v
climbed law rules zero w enough top under =
    ⊎_elim
    (λ (m : MeetsRules rules w). (w, record { meets = m; least = under }))
    (λ (b : Broken rules w). absurd (omega (arith, (climbs law rules w top under b).less)))
    (met_or_not rules w)
climbed law rules (suc n) w enough top under =
    ⊎_elim
    (λ (m : MeetsRules rules w). (w, record { meets = m; least = under }))
    (λ (b : Broken rules w).
    let c : Climbs rules w (raise w b.rule) = climbs law rules w top under b in
    climbed law rules n (raise w b.rule) (omega (arith, c.less)) c.top c.under)
    (met_or_not rules w)

pub has_least : Monotone → HasLeast
has_least law rules = climbed law rules (room rules (λ k. 0)) (λ k. 0) (omega arith) (λ k. omega arith) (λ v m k. omega arith)

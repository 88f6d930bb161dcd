-- How what the parts of the parser read is put together.
use Rattle.std.proofs.Common.{◌≡◌, ◌⊎◌, inl, inr, ℕ, ◌≤◌, ◌<◌, List, [], ◌∷◌, ◌++◌, drop, length, Bool, true, false, ◌&&◌, nat_le, Option, Some, None, Result, Ok, Err, IfOk, IfErr, if◌then◌else◌, refl, sym, ap, ◌∙◌, subst, append_assoc, arith}
use Rattle.std.specs.Result.{IsErrAnd}
use Rattle.std.proofs.lemmas.Bool.{le-leb}
use Rattle.std.proofs.lemmas.List.{append-nil}
use Rattle.ver_ast.specs.declared.place.VPlace.{VPlace}
use Rattle.ver_ast.specs.Tokens.{VToken, sign}
use Rattle.ver_ast.specs.Pieces.{PlacedToken}
use Rattle.ver_ast.specs.Spells.{IsAlike}
use Rattle.ver_parse.specs.Depths.{opened_by}
use Rattle.ver_parse.specs.declared.parser.Parser.{Parser}
use Rattle.ver_parse.specs.declared.stop.Stop.{Stop}
use Rattle.ver_parse.specs.declared.stop.Stop.TheVariants as stop
use Rattle.ver_parse.specs.working.Symbols.{Symbol}
use Rattle.ver_parse.specs.working.Steps.{Step, takes, skips, refuses, step}
use Rattle.ver_parse.specs.working.Reading.{Outcome, ends, unexpected, too_deep, by_step, behind, at_end, is_brace, go_on, read_on}
use Rattle.ver_parse.specs.working.Reads.{rest, left, Takes, goes, Leads, Gives, IsStop, Halts, IsEnd, StopsBefore, IsRefusal, HasFront}
use Rattle.ver_parse.specs.working.Fixed.{TestsTo, HeadIs, Took, Keeps, IsFull}

-- ---- tokens

pub takes_append : (a b : List VToken) (x y z : List PlacedToken) → Takes a x y → Takes b y z → Takes (a ++ b) x z
takes_append [] b x y z e h = subst (λ u. Takes b u z) (sym e) h
takes_append (g ∷ a) b x y z (t, more, e, i, r) h = (t, more, e, i, takes_append a b more y z r h)

-- ---- one token

pub reads_end : (d : ℕ) (todo : List Symbol) → read_on d todo [] ≡ at_end todo
unfolding read_on
reads_end d todo = refl

pub reads_token : (d : ℕ) (todo : List Symbol) (t : PlacedToken) (ts : List PlacedToken)
    → read_on d todo (t ∷ ts) ≡ go_on (behind todo t.token) d t (λ next. read_on (opened_by d t.token) next ts)
unfolding read_on
reads_token d todo t ts = refl

pub goes_behind : (d : ℕ) (todo next : List Symbol) (t : PlacedToken) (ts : List PlacedToken) → behind todo t.token ≡ Some next → (is_brace t.token && nat_le 256 d) ≡ false
    → read_on d todo (t ∷ ts) ≡ read_on (opened_by d t.token) next ts
goes_behind d todo next t ts e b =
    let further : List Symbol → Outcome = λ n. read_on (opened_by d t.token) n ts in
    reads_token d todo t ts ∙ ap (λ o. go_on o d t further) e ∙ ap (λ (c : Bool). if c then too_deep t.place else further next) b

pub goes_too_deep : (d : ℕ) (todo next : List Symbol) (t : PlacedToken) (ts : List PlacedToken) → behind todo t.token ≡ Some next → (is_brace t.token && nat_le 256 d) ≡ true
    → read_on d todo (t ∷ ts) ≡ too_deep t.place
goes_too_deep d todo next t ts e b =
    let further : List Symbol → Outcome = λ n. read_on (opened_by d t.token) n ts in
    reads_token d todo t ts ∙ ap (λ o. go_on o d t further) e ∙ ap (λ (c : Bool). if c then too_deep t.place else further next) b

pub goes_no_further : (d : ℕ) (todo : List Symbol) (t : PlacedToken) (ts : List PlacedToken) → behind todo t.token ≡ None → read_on d todo (t ∷ ts) ≡ unexpected t.place
goes_no_further d todo t ts e = reads_token d todo t ts ∙ ap (λ o. go_on o d t (λ next. read_on (opened_by d t.token) next ts)) e

pub goes_alike : (d : ℕ) (todo other : List Symbol) (t : PlacedToken) (ts : List PlacedToken) → behind todo t.token ≡ behind other t.token
    → read_on d todo (t ∷ ts) ≡ read_on d other (t ∷ ts)
goes_alike d todo other t ts e =
    reads_token d todo t ts ∙ ap (λ o. go_on o d t (λ next. read_on (opened_by d t.token) next ts)) e ∙ sym (reads_token d other t ts)

-- ---- parts one behind another

pub chained : {a b c : List Symbol} {g h : List VToken} {x y z : Parser} → Leads a g b x y → Leads b h c y z → Leads a (g ++ h) c x z
chained p q = record { taken = takes_append _ _ _ _ _ p.taken q.taken; goes_on = λ todo. p.goes_on todo ∙ q.goes_on todo }

pub beside : {a b : List Symbol} {g : List VToken} {x y : Parser} (r : List Symbol) → Leads a g b x y → Leads (a ++ r) g (b ++ r) x y
beside {a = a} {b = b} {x = x} {y = y} r p = record {
  taken = p.taken;
  goes_on = λ todo. ap (λ l. goes x l) (append_assoc a r todo) ∙ p.goes_on (r ++ todo) ∙ ap (λ l. goes y l) (sym (append_assoc b r todo));
}

infixr 3 ◌▸◌
pub ◌▸◌ : {a b : List Symbol} {g h : List VToken} {x y z : Parser} → Gives a g x y → Gives b h y z → Gives (a ++ b) (g ++ h) x z
◌▸◌ {b = b} p q = chained (beside b p) q

-- what stands behind is all that was left out of the whole
pub joined : {ss : List Symbol} {x y : Parser} (front whole : List VToken) → HasFront front whole → Gives ss (front ++ drop (length front) whole) x y → Gives ss whole x y
joined {ss = ss} {x = x} {y = y} front whole e p = subst (λ gs. Gives ss gs x y) (sym e) p

-- ---- the last part

drop_front : (pre gs : List VToken) → drop (length pre) (pre ++ gs) ≡ gs
drop_front [] gs = refl
drop_front (g ∷ pre) gs = drop_front pre gs

part_is : (pre mid whole : List VToken) → HasFront (pre ++ mid) whole → mid ++ drop (length (pre ++ mid)) whole ≡ drop (length pre) whole
part_is pre mid whole e =
    let behind_both = drop (length (pre ++ mid)) whole in
    sym (ap (λ l. drop (length pre) l) (e ∙ append_assoc pre mid behind_both) ∙ drop_front pre (mid ++ behind_both))

pub front_less : (pre mid whole : List VToken) → HasFront (pre ++ mid) whole → HasFront pre whole
front_less pre mid whole e = e ∙ append_assoc pre mid (drop (length (pre ++ mid)) whole) ∙ ap (λ l. pre ++ l) (part_is pre mid whole e)

pub tail : {A : Type 0} {a b : List Symbol} {g : List VToken} {x y : Parser} (z : Parser) (r : Result A Stop) (h : A → List VToken) → Leads a g b x y
    → IfOk r (λ v. Gives b (h v) y z) → IfOk r (λ v. Gives a (g ++ h v) x z)
tail z (Ok v) h p q = chained p q
tail z (Err s) h p q = tt

pub tail_part : {A : Type 0} {a b : List Symbol} {x y : Parser} (z : Parser) (r : Result A Stop) (pre mid : List VToken) (whole : A → List VToken) → Leads a mid b x y
    → IfOk r (λ v. HasFront (pre ++ mid) (whole v)) → IfOk r (λ v. Gives b (drop (length (pre ++ mid)) (whole v)) y z) → IfOk r (λ v. Gives a (drop (length pre) (whole v)) x z)
tail_part {a = a} {x = x} z (Ok v) pre mid whole p e q = subst (λ gs. Gives a gs x z) (part_is pre mid (whole v) e) (chained p q)
tail_part z (Err s) pre mid whole p e q = tt

pub tail_front : {A : Type 0} (r : Result A Stop) (pre mid : List VToken) (whole : A → List VToken) → IfOk r (λ v. HasFront (pre ++ mid) (whole v)) → IfOk r (λ v. HasFront pre (whole v))
tail_front (Ok v) pre mid whole e = front_less pre mid (whole v) e
tail_front (Err s) pre mid whole e = tt

-- the same where the last part is read and given
pub part : {a b : List Symbol} {x y z : Parser} (pre mid whole : List VToken) → Leads a mid b x y → HasFront (pre ++ mid) whole → Gives b (drop (length (pre ++ mid)) whole) y z
    → Gives a (drop (length pre) whole) x z
part {a = a} {x = x} {z = z} pre mid whole p e q = subst (λ gs. Gives a gs x z) (part_is pre mid whole e) (chained p q)

-- ---- where the tokens stop

pub halts_into : {a b : List Symbol} {g : List VToken} {x y : Parser} {s : Stop} → Leads a g b x y → Halts b y s → Halts a x s
halts_into {s = s} p h = record { stops = λ todo. subst (IsStop s) (sym (p.goes_on todo)) (h.stops todo) }

pub halts_more : {a : List Symbol} {x : Parser} {s : Stop} (r : List Symbol) → Halts a x s → Halts (a ++ r) x s
halts_more {a = a} {x = x} {s = s} r h = record { stops = λ todo. subst (λ l. IsStop s (goes x l)) (sym (append_assoc a r todo)) (h.stops (r ++ todo)) }

pub halts_behind : {a b : List Symbol} {g : List VToken} {x y : Parser} {s : Stop} → Gives a g x y → Halts b y s → Halts (a ++ b) x s
halts_behind {b = b} p h = halts_into (beside b p) h

pub tail_halts : {A : Type 0} {a b : List Symbol} {g : List VToken} {x y : Parser} (r : Result A Stop) → Leads a g b x y → IfErr r (λ s. Halts b y s) → IfErr r (λ s. Halts a x s)
tail_halts (Ok v) p q = tt
tail_halts (Err s) p q = halts_into p q

pub memory : {a : List Symbol} {x : Parser} → Halts a x stop.Memory
memory = record { stops = λ todo. tt }

pub exits : {A : Type 0} {ss : List Symbol} {x : Parser} {e : Stop} (r : Result A Stop) → IsErrAnd r (λ s. s ≡ e) → Halts ss x e → IfErr r (λ s. Halts ss x s)
exits (Ok v) i h = tt
exits {ss = ss} {x = x} (Err s) i h = subst (λ k. Halts ss x k) (sym i) h

ended_so : (s : Symbol) (ss todo : List Symbol) (x : Parser) → rest x ≡ [] → goes x (s ∷ ss ++ todo) ≡ ends
ended_so s ss todo x e = ap (λ ts. read_on x.depth (s ∷ ss ++ todo) ts) e ∙ reads_end x.depth (s ∷ ss ++ todo)

pub ended : {x : Parser} {k : Stop} (s : Symbol) (ss : List Symbol) → IsEnd x k → Halts (s ∷ ss) x k
ended {x = x} s ss e = record { stops = λ todo. subst (λ j. IsStop j (goes x (s ∷ ss ++ todo))) (sym e.stop_is) (ended_so s ss todo x e.nothing_left) }

-- ---- a token that is tried

behind_taken : (s : Symbol) (ss todo : List Symbol) (t : VToken) → step s t ≡ takes ss → behind (s ∷ todo) t ≡ Some (ss ++ todo)
behind_taken s ss todo t e = ap (λ u. by_step u todo (behind todo t)) e

took_on : (s : Symbol) (ss todo : List Symbol) (t : VToken) (x y : Parser) (w : Took t x y) → step s t ≡ takes ss → goes x (s ∷ todo) ≡ goes y (ss ++ todo)
took_on s ss todo t x y w e =
    ap (λ ts. read_on x.depth (s ∷ todo) ts) w.tokens_are
    ∙ goes_behind x.depth (s ∷ todo) (ss ++ todo) (record { token = t; place = w.place }) (rest y) (behind_taken s ss todo t e) w.room
    ∙ ap (λ (d : ℕ). read_on d (ss ++ todo) (rest y)) (sym w.depth_is)

pub took : {t : VToken} {x y : Parser} (s : Symbol) (ss : List Symbol) (g : VToken) → Took t x y → step s t ≡ takes ss → IsAlike g t → Leads (s ∷ []) (g ∷ []) ss x y
took {t = t} {x = x} {y = y} s ss g w e i = record {
  taken = (record { token = t; place = w.place }, rest y, w.tokens_are, i, refl);
  goes_on = λ todo. took_on s ss todo t x y w e;
}

alike_on : (s : Symbol) (ss todo : List Symbol) (test : VToken → Bool) (b : Bool) (d : ℕ) (ts : List PlacedToken) → TestsTo test b ts
    → ((t : VToken) → test t ≡ b → (todo : List Symbol) → behind (s ∷ todo) t ≡ behind (ss ++ todo) t) → read_on d (s ∷ todo) ts ≡ read_on d (ss ++ todo) ts
alike_on s ss todo test b d [] h same = absurd h
alike_on s ss todo test b d (t ∷ ts) h same = goes_alike d (s ∷ todo) (ss ++ todo) t ts (same t.token h todo)

-- others are expected in its place, where the token at hand is none that is tried
pub turns : {test : VToken → Bool} {b : Bool} {x : Parser} (s : Symbol) (ss : List Symbol) → HeadIs test b x
    → ((t : VToken) → test t ≡ b → (todo : List Symbol) → behind (s ∷ todo) t ≡ behind (ss ++ todo) t) → Leads (s ∷ []) [] ss x x
turns {test = test} {b = b} {x = x} s ss h same = record { taken = refl; goes_on = λ todo. alike_on s ss todo test b x.depth (rest x) h.tests same }

pub turned : {test : VToken → Bool} {x y : Parser} (s : Symbol) (ss : List Symbol) → Keeps test x y
    → ((t : VToken) → test t ≡ false → (todo : List Symbol) → behind (s ∷ todo) t ≡ behind (ss ++ todo) t) → Leads (s ∷ []) [] ss x y
turned {x = x} s ss k same = subst (λ z. Leads (s ∷ []) [] ss x z) (sym k.same) (turns s ss k.head same)

both_tests : (f g : VToken → Bool) (a b : Bool) (ts : List PlacedToken) (s : Symbol) (ss todo : List Symbol) (d : ℕ) → TestsTo f a ts → TestsTo g b ts
    → ((t : VToken) → f t ≡ a → g t ≡ b → (todo : List Symbol) → behind (s ∷ todo) t ≡ behind (ss ++ todo) t) → read_on d (s ∷ todo) ts ≡ read_on d (ss ++ todo) ts
both_tests f g a b [] s ss todo d h k same = absurd h
both_tests f g a b (t ∷ ts) s ss todo d h k same = goes_alike d (s ∷ todo) (ss ++ todo) t ts (same t.token h k todo)

-- by two tests
pub turns_twice : {f g : VToken → Bool} {a b : Bool} {x : Parser} (s : Symbol) (ss : List Symbol) → HeadIs f a x → HeadIs g b x
    → ((t : VToken) → f t ≡ a → g t ≡ b → (todo : List Symbol) → behind (s ∷ todo) t ≡ behind (ss ++ todo) t) → Leads (s ∷ []) [] ss x x
turns_twice {f = f} {g = g} {a = a} {b = b} {x = x} s ss h k same = record { taken = refl; goes_on = λ todo. both_tests f g a b (rest x) s ss todo x.depth h.tests k.tests same }

-- nothing was taken before
pub kept : {test : VToken → Bool} {a : List Symbol} {g : List VToken} {b : List Symbol} {x y z : Parser} → Keeps test x y → Leads a g b y z → Leads a g b x z
kept {a = a} {g = g} {b = b} {z = z} k p = subst (λ w. Leads a g b w z) k.same p

pub kept_end : {test : VToken → Bool} {a : List Symbol} {x y : Parser} {s : Stop} → Keeps test x y → Halts a y s → Halts a x s
kept_end {a = a} {s = s} k p = subst (λ w. Halts a w s) k.same p

pub kept_head : {test f : VToken → Bool} {b : Bool} {x y : Parser} → Keeps test x y → HeadIs f b y → HeadIs f b x
kept_head {f = f} {b = b} k h = subst (λ w. HeadIs f b w) k.same h

refused_on : (s : Symbol) (todo : List Symbol) (test : VToken → Bool) (b : Bool) (k : Stop) (d : ℕ) (ts : List PlacedToken) → TestsTo test b ts → StopsBefore ts k
    → ((t : VToken) → test t ≡ b → step s t ≡ refuses) → IsStop k (read_on d (s ∷ todo) ts)
refused_on s todo test b k d [] h r none = absurd h
refused_on s todo test b k d (t ∷ ts) h r none =
    let stays : behind (s ∷ todo) t.token ≡ None = ap (λ u. by_step u todo (behind todo t.token)) (none t.token h) in
    subst (λ j. IsStop j (read_on d (s ∷ todo) (t ∷ ts))) (sym r) (goes_no_further d (s ∷ todo) t ts stays)

pub refused : {test : VToken → Bool} {b : Bool} {x : Parser} {k : Stop} (s : Symbol) → HeadIs test b x → IsRefusal x k
    → ((t : VToken) → test t ≡ b → step s t ≡ refuses) → Halts (s ∷ []) x k
refused {test = test} {b = b} {x = x} {k = k} s h r none = record { stops = λ todo. refused_on s todo test b k x.depth (rest x) h.tests r.stops none }

pub refused_behind : {test : VToken → Bool} {x y : Parser} {k : Stop} (s : Symbol) → Keeps test x y → IsRefusal y k
    → ((t : VToken) → test t ≡ false → step s t ≡ refuses) → Halts (s ∷ []) x k
refused_behind {k = k} s e r none = refused s e.head (subst (λ z. IsRefusal z k) e.same r) none

-- a brace too many
full_on : (s : Symbol) (ss todo : List Symbol) (x : Parser) (k : Stop) (w : IsFull x k) → step s (sign 123) ≡ takes ss → goes x (s ∷ todo) ≡ too_deep w.place
full_on s ss todo x k w e =
    let brace : PlacedToken = record { token = sign 123; place = w.place } in
    ap (λ ts. read_on x.depth (s ∷ todo) ts) w.tokens_are
    ∙ goes_too_deep x.depth (s ∷ todo) (ss ++ todo) brace w.more (behind_taken s ss todo (sign 123) e) (le-leb 256 x.depth w.full)

pub full : {x : Parser} {k : Stop} (s : Symbol) (ss : List Symbol) → IsFull x k → step s (sign 123) ≡ takes ss → Halts (s ∷ []) x k
full {x = x} {k = k} s ss w e = record { stops = λ todo. subst (λ j. IsStop j (goes x (s ∷ todo))) (sym w.stop_is) (full_on s ss todo x k w e) }

pub end_or_full : {x : Parser} {k : Stop} (s : Symbol) (ss : List Symbol) → IsEnd x k ⊎ IsFull x k → step s (sign 123) ≡ takes ss → Halts (s ∷ []) x k
end_or_full s ss (inl h) e = ended s [] h
end_or_full s ss (inr h) e = full s ss h e

-- ---- the whole of what is read, cut behind its front

pub cut : {a : List Symbol} {x y : Parser} (pre gs whole : List VToken) → whole ≡ pre ++ gs → Gives a gs x y → Gives a (drop (length pre) whole) x y
cut {a = a} {x = x} {y = y} pre gs whole e p = subst (λ l. Gives a l x y) (sym (ap (λ l. drop (length pre) l) e ∙ drop_front pre gs)) p

pub front_is : (pre gs whole : List VToken) → whole ≡ pre ++ gs → HasFront pre whole
front_is pre gs whole e = e ∙ ap (λ l. pre ++ l) (sym (ap (λ l. drop (length pre) l) e ∙ drop_front pre gs))

took_shorter : (a b : List PlacedToken) (t : PlacedToken) → a ≡ t ∷ b → length b < length a
took_shorter a b t e = let n : length a ≡ length (t ∷ b) = ap length e in omega arith

pub nearer : {t : VToken} {x y : Parser} → Took t x y → left y < left x
nearer {t = t} {x = x} {y = y} w = took_shorter (rest x) (rest y) (record { token = t; place = w.place }) w.tokens_are

pub not_farther : {test : VToken → Bool} {x y : Parser} → Keeps test x y → left y ≤ left x
not_farther {x = x} k = let n = ap (λ (p : Parser). left p) k.same in omega arith

-- one round more of a loop that a token begins
pub once_more : {t : VToken} {ss : List Symbol} {g h : List VToken} {x y z w : Parser} (s : Symbol) → Leads (s ∷ []) g (s ∷ []) x y → Took t y z → step s t ≡ takes (ss ++ s ∷ []) → IsAlike t t
    → Gives ss h z w → Leads (s ∷ []) (g ++ t ∷ h) (s ∷ []) x w
once_more {t = t} {ss = ss} s p k e i q = chained p (chained (took s (ss ++ s ∷ []) t k e i) (beside (s ∷ []) q))

pub reads_nothing : {a : List Symbol} {x : Parser} → Leads a [] a x x
reads_nothing = record { taken = refl; goes_on = λ todo. refl }

pub kept_to : {test : VToken → Bool} {a b : List Symbol} {g : List VToken} {x y : Parser} → Keeps test x y → Leads a g b x x → Leads a g b x y
kept_to {a = a} {b = b} {g = g} {x = x} k p = subst (λ z. Leads a g b x z) (sym k.same) p

pub head_kept : {test : VToken → Bool} {x y : Parser} → Keeps test x y → HeadIs test false y
head_kept {test = test} k = subst (λ z. HeadIs test false z) (sym k.same) k.head

pub tail_split : {A : Type 0} {a b : List Symbol} {x y : Parser} (z : Parser) (r : Result A Stop) (pre mid front : List VToken) (whole : A → List VToken) → front ≡ pre ++ mid → Leads a mid b x y
    → IfOk r (λ v. HasFront front (whole v)) → IfOk r (λ v. Gives b (drop (length front) (whole v)) y z) → IfOk r (λ v. Gives a (drop (length pre) (whole v)) x z)
tail_split {b = b} {y = y} z r pre mid front whole e p h q =
    tail_part z r pre mid whole p (subst (λ l. IfOk r (λ v. HasFront l (whole v))) e h) (subst (λ l. IfOk r (λ v. Gives b (drop (length l) (whole v)) y z)) e q)

pub front_split : {A : Type 0} (r : Result A Stop) (pre mid front : List VToken) (whole : A → List VToken) → front ≡ pre ++ mid → IfOk r (λ v. HasFront front (whole v)) → IfOk r (λ v. HasFront pre (whole v))
front_split r pre mid front whole e h = tail_front r pre mid whole (subst (λ l. IfOk r (λ v. HasFront l (whole v))) e h)

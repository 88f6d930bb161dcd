-- What pipes leave of the words of the state: their numbers; their widths, which stay; and the words of registers and pipes, where what the pipes read is known.
use Rattle.std.proofs.Common.{◌≡◌, ℕ, zero, suc, ◌+◌, List, [], ◌∷◌, ◌++◌, length, map, set, Bool, true, false, if◌then◌else◌, slice_index, Option, Some, None, refl, sym, ap, ◌∙◌, subst, arith, append_assoc, length-append, unwrap_or}
use Rattle.std.specs.Prelude.{slice_get}
use Rattle.std.specs.List.{AllByRecursion}
use Rattle.std.specs.Option.{option_to_list}
use Rattle.std.proofs.lemmas.List.{length-map, map-set}
use Rattle.fir_bits.specs.Values.{BitVector}
use Rattle.fir_net.specs.declared.net.FlatNet.{FlatNet}
use Rattle.fir_net.specs.working.Next.{ticks}
use Rattle.fir_work.specs.working.Numbers.{number_at}
use Rattle.fir_tick.specs.declared.array_reads.WordRead.{WordRead}
use Rattle.fir_tick.specs.declared.pipe_plans.PipePlan.{PipePlan}
use Rattle.fir_tick.specs.working.ArrayReads.{is_found, word_at, word_found}
use Rattle.fir_tick.specs.working.Passes.{zero_of}
use Rattle.fir_tick.specs.working.PipePlans.{ArePipePlans, HasNoPipe, IsPipePlan, IsPipeWork}
use Rattle.fir_tick.specs.working.PipeReads.{one_piped, piped}
use Rattle.fir_tick.specs.working.Views.{numbers, widths}
use Rattle.fir_sim.proofs.Written.{set_same}

number_there : (vs : List BitVector) (i w : ℕ) → (unwrap_or (slice_get vs i) (zero_of w)).number ≡ slice_index (numbers vs) i
number_there [] i w = refl
number_there (v ∷ vs) zero w = refl
number_there (v ∷ vs) (suc i) w = number_there vs i w

width_there : (vs : List BitVector) (i w : ℕ) → (unwrap_or (slice_get vs i) (zero_of w)).width ≡ unwrap_or (slice_get (widths vs) i) w
width_there [] i w = refl
width_there (v ∷ vs) zero w = refl
width_there (v ∷ vs) (suc i) w = width_there vs i w

set_behind : (done : List ℕ) (x v : ℕ) (tail : List ℕ) → set (done ++ (x ∷ tail)) (length done) v ≡ done ++ (v ∷ tail)
set_behind [] x v tail = refl
set_behind (d ∷ done) x v tail = ap (λ (zs : List ℕ). d ∷ zs) (set_behind done x v tail)

module _ (ns named : List ℕ) where
  -- the same of numbers
  abbrev pub one_taken : PipePlan → List ℕ → List ℕ
  one_taken p words = if ticks named p.clock then set words p.place (word_found p.read words ns) else words

  abbrev pub all_taken : List PipePlan → List ℕ → List ℕ
  all_taken [] words = words
  all_taken (p ∷ ps) words = all_taken ps (one_taken p words)

  word_number : (r : WordRead) (w : ℕ) (vs : List BitVector) → (word_at r w vs ns).number ≡ word_found r (numbers vs) ns
  word_number r w vs = by (is_found r ns)
    where
      place : ℕ
      place = r.span.begin + number_at ns r.address

      by : (b : Bool) → (if b then unwrap_or (slice_get vs place) (zero_of w) else zero_of w).number ≡ (if b then slice_index (numbers vs) place else 0)
      by true = number_there vs place w
      by false = refl

  one_numbers : (p : PipePlan) (vs : List BitVector) → numbers (one_piped ns named p vs) ≡ one_taken p (numbers vs)
  one_numbers p vs = by (ticks named p.clock)
    where
      by : (b : Bool) → numbers (if b then set vs p.place (word_at p.read p.width vs ns) else vs) ≡ (if b then set (numbers vs) p.place (word_found p.read (numbers vs) ns) else numbers vs)
      by true = map-set (λ (v : BitVector). v.number) vs p.place (word_at p.read p.width vs ns) ∙ ap (set (numbers vs) p.place) (word_number p.read p.width vs)
      by false = refl

  pub piped_numbers : (ps : List PipePlan) (vs : List BitVector) → numbers (piped ns named ps vs) ≡ all_taken ps (numbers vs)
  piped_numbers [] vs = refl
  piped_numbers (p ∷ ps) vs = piped_numbers ps (one_piped ns named p vs) ∙ ap (all_taken ps) (one_numbers p vs)

  -- the word that is read has the width of the word of the pipe
  pub record KeepsWord (ws : List ℕ) (p : PipePlan) : Type 0 where
    pub place : slice_get ws p.place ≡ Some p.width
    pub found : is_found p.read ns ≡ true → slice_get ws (p.read.span.begin + number_at ns p.read.address) ≡ Some p.width

  word_width : (ws : List ℕ) (p : PipePlan) (vs : List BitVector) → KeepsWord ws p → widths vs ≡ ws → (word_at p.read p.width vs ns).width ≡ p.width
  word_width ws p vs k e = by (is_found p.read ns) refl
    where
      place : ℕ
      place = p.read.span.begin + number_at ns p.read.address

      by : (b : Bool) → is_found p.read ns ≡ b → (if b then unwrap_or (slice_get vs place) (zero_of p.width) else zero_of p.width).width ≡ p.width
      by true is = width_there vs place p.width ∙ ap (λ (us : List ℕ). unwrap_or (slice_get us place) p.width) e ∙ ap (λ (o : Option ℕ). unwrap_or o p.width) (k.found is)
      by false is = refl

  one_widths : (ws : List ℕ) (p : PipePlan) (vs : List BitVector) → KeepsWord ws p → widths vs ≡ ws → widths (one_piped ns named p vs) ≡ ws
  one_widths ws p vs k e = by (ticks named p.clock)
    where
      by : (b : Bool) → widths (if b then set vs p.place (word_at p.read p.width vs ns) else vs) ≡ ws
      by true =
          map-set (λ (v : BitVector). v.width) vs p.place (word_at p.read p.width vs ns) ∙ ap (λ (us : List ℕ). set us p.place (word_at p.read p.width vs ns).width) e
          ∙ ap (set ws p.place) (word_width ws p vs k e) ∙ set_same ws p.place p.width k.place
      by false = e

  pub piped_widths : (ws : List ℕ) (ps : List PipePlan) (vs : List BitVector) → AllByRecursion (KeepsWord ws) ps → widths vs ≡ ws → widths (piped ns named ps vs) ≡ ws
  piped_widths ws [] vs h e = e
  piped_widths ws (p ∷ ps) vs h e = piped_widths ws ps (one_piped ns named p vs) h.1 (one_widths ws p vs h.0 e)

  -- the words in front of these, where each leaf had one word and then has another
  module _
      (net : FlatNet) (roots : List (Option ℕ)) (is_new : Bool) (f g : ℕ → ℕ) (back : List ℕ) (n : ℕ)
      (kept : (k : ℕ) → HasNoPipe net is_new k → f k ≡ g k)
      (taken : (place k : ℕ) (p : PipePlan) → slice_get net.state place ≡ Some k → IsPipePlan net roots is_new place k p → (front : List ℕ) → length front ≡ n
      → (if ticks named p.clock then word_found p.read (front ++ back) ns else f k) ≡ g k) where
    one_put : (done ks : List ℕ) (k : ℕ) (p : PipePlan) → length done + suc (length ks) ≡ n → slice_get net.state (length done) ≡ Some k → IsPipePlan net roots is_new (length done) k p
        → one_taken p (done ++ (f k ∷ (map f ks ++ back))) ≡ done ++ (g k ∷ (map f ks ++ back))
    one_put done ks k p long at is =
        ap (λ (i : ℕ). if ticks named p.clock then set all i (word_found p.read all ns) else all) is.stands ∙ by (ticks named p.clock)
        ∙ ap (λ (x : ℕ). done ++ (x ∷ tail)) (ap (λ (words : List ℕ). if ticks named p.clock then word_found p.read words ns else f k) (sym (append_assoc done (f k ∷ map f ks) back)) ∙ taken (length done) k p at is front front_long)
      where
        tail : List ℕ
        tail = map f ks ++ back

        all : List ℕ
        all = done ++ (f k ∷ tail)

        front : List ℕ
        front = done ++ (f k ∷ map f ks)

        front_long : length front ≡ n
        front_long = let joined = length-append done (f k ∷ map f ks) in let mapped = length-map ks f in omega (arith, joined, mapped, long)

        by : (t : Bool) → (if t then set all (length done) (word_found p.read all ns) else all) ≡ done ++ ((if t then word_found p.read all ns else f k) ∷ tail)
        by true = set_behind done (f k) (word_found p.read all ns) tail
        by false = refl

    one_work : (done ks : List ℕ) (k : ℕ) (own : Option PipePlan) (ps : List PipePlan) → length done + suc (length ks) ≡ n → slice_get net.state (length done) ≡ Some k → IsPipeWork net roots is_new (length done) k own
        → all_taken (option_to_list own ++ ps) (done ++ (f k ∷ (map f ks ++ back))) ≡ all_taken ps (done ++ (g k ∷ (map f ks ++ back)))
    one_work done ks k None ps long at is = ap (λ (x : ℕ). all_taken ps (done ++ (x ∷ (map f ks ++ back)))) (kept k is)
    one_work done ks k (Some p) ps long at is = ap (all_taken ps) (one_put done ks k p long at is)

    pub along : (ks : List ℕ) (ps : List PipePlan) (done : List ℕ) → ArePipePlans net roots is_new (length done) ks ps → length done + length ks ≡ n → ((j k : ℕ) → slice_get ks j ≡ Some k → slice_get net.state (length done + j) ≡ Some k)
        → all_taken ps (done ++ (map f ks ++ back)) ≡ done ++ (map g ks ++ back)
    along [] ps done are long stands = ap (λ (qs : List PipePlan). all_taken qs (done ++ back)) are
    along (k ∷ ks) ps done are long stands =
        ap (λ (qs : List PipePlan). all_taken qs (done ++ (f k ∷ (map f ks ++ back)))) are.3
        ∙ one_work done ks k are.0 are.1 long (let here : length done ≡ length done + 0 = omega arith in ap (slice_get net.state) here ∙ stands 0 k refl) are.2
        ∙ ap (all_taken are.1) (sym (append_assoc done (g k ∷ []) (map f ks ++ back)))
        ∙ along ks are.1 (done ++ g k ∷ []) (subst (λ (i : ℕ). ArePipePlans net roots is_new i ks are.1) (sym more) are.4) (omega (arith, more, long))
        (λ j m e. let on : length (done ++ g k ∷ []) + j ≡ length done + suc j = omega (arith, more) in ap (slice_get net.state) on ∙ stands (suc j) m e)
        ∙ append_assoc done (g k ∷ []) (map g ks ++ back)
      where
        more : length (done ++ g k ∷ []) ≡ length done + 1
        more = length-append done (g k ∷ [])

-- The lines of a simulation while they are gathered and put to the output.
use Rattle.std.proofs.Common.{◌≡◌, ℕ, ◌+◌, ◌≤◌, ◌<◌, List, [], ◌++◌, Some, None, Option, Err, inl, inr, refl, sym, ap, ◌∙◌, subst, arith}
use Rattle.std.specs.Prelude.{option_map}
use Rattle.std.proofs.lemmas.List.{append-nil, append_assoc}
use Rattle.fir_base.specs.declared.refused.Refused.TheVariants.{Fault}
use Rattle.fir_io.specs.Ports.{SinkSeen, Rose, Grew, GrewByFront}
use Rattle.trace_text.specs.TraceSpells.{TraceSpells}
use Rattle.trace_text.specs.BadLine.{BadLine}
use Rattle.trace_lines.specs.declared.lines.Finish.{Finish}
use Rattle.trace_lines.specs.declared.lines.Finish.TheVariants as finish
use Rattle.trace_lines.specs.declared.simulation.Lack.{Lack}
use Rattle.trace_lines.specs.declared.simulation.Stop.{Stop}
use Rattle.trace_lines.specs.declared.simulation.Stop.TheVariants as stop
use Rattle.trace_lines.specs.Saying.{Saying, SaysFront}
use Rattle.trace_lines.specs.working.Stepping.{Steps}
use Rattle.trace_lines.specs.working.Lined.{Lined, RestPut, finish_for}
use Rattle.trace_lines.proofs.Kept.{kept_same}

-- so many ticks were run at most; of their lines the output took some, and the others are gathered
pub record Lining {R T : Type 0} (IsReady : R → Type 0) (of : R → T) (place : R → ℕ) (HasMade : R → List ℕ → Type 0) (first now : R) (old new : SinkSeen) (lines : List ℕ)
    (count : ℕ) : Type 0 where
  pub ready : IsReady now
  pub stays : of now ≡ of first
  pub far : count ≤ place now
  pub printed : List ℕ
  pub made : HasMade now printed
  pub put : List ℕ
  pub parts : printed ≡ put ++ lines
  pub grew : Grew old new put
  pub faults : new.faults ≡ old.faults

held_more : (o : Option (List ℕ)) (a b : List ℕ) → option_map (λ held. held ++ b) (option_map (λ held. held ++ a) o) ≡ option_map (λ held. held ++ (a ++ b)) o
held_more None a b = refl
held_more (Some held) a b = ap Some (append_assoc held a b)

grew_on : (old mid new : SinkSeen) (a b : List ℕ) → Grew old mid a → Grew mid new b → Grew old new (a ++ b)
grew_on old mid new a b h k = k ∙ ap (λ (o : Option (List ℕ)). option_map (λ held. held ++ b) o) h ∙ held_more old.held a b

module _ {R T : Type 0} (IsReady : R → Type 0) (of : R → T) (place : R → ℕ) (HasMade : R → List ℕ → Type 0) where
  pub none_lined : (r : R) (out : SinkSeen) (lines : List ℕ) → lines ≡ [] → IsReady r → HasMade r [] → Lining IsReady of place HasMade r r out out lines 0
  none_lined r out lines none ready made = record {
    ready = ready;
    stays = refl;
    far = omega arith;
    printed = [];
    made = made;
    put = [];
    parts = sym none;
    grew = kept_same out;
    faults = refl;
  }

  module _ (trace : List ℕ) (ran : T → Saying → List ℕ → Type 0) (lacked : T → List ℕ → Lack → List ℕ → Type 0)
      (made_front : (s : R) (printed : List ℕ) → HasMade s printed → ran (of s) (SaysFront trace) printed) (first now : R) (old new : SinkSeen) (lines : List ℕ) (count : ℕ)
      (h : Lining IsReady of place HasMade first now old new lines count) where
    abbrev Ends : SinkSeen → Finish → Type 0
    Ends = Lined trace (ran (of first)) (lacked (of first)) old

    -- what a step tells of what is simulated is told of it at the beginning
    ran_first : (s : Saying) (printed : List ℕ) → ran (of now) s printed → ran (of first) s printed
    ran_first s printed r = subst (λ (t : T). ran t s printed) h.stays r

    lacked_first : (lack : Lack) (printed : List ℕ) → lacked (of now) trace lack printed → lacked (of first) trace lack printed
    lacked_first lack printed r = subst (λ (t : T). lacked t trace lack printed) h.stays r

    -- the lines so far are those of the ticks at the front of the trace
    front_lined : ran (of first) (SaysFront trace) h.printed
    front_lined = ran_first (SaysFront trace) h.printed (made_front now h.printed h.made)

    -- a fault that rose in the last put rose in all
    pub rose_first : (n : ℕ) → Rose new.faults n → Rose old.faults n
    rose_first n rose = subst (λ (m : ℕ). Rose m n) h.faults rose

    module _ (out : SinkSeen) where
      -- the output took the gathered lines too, or a front of them
      whole_rest : Grew new out lines → Grew old out h.printed
      whole_rest grew = subst (Grew old out) (sym h.parts) (grew_on old new out h.put lines h.grew grew)

      front_rest : GrewByFront new out lines → GrewByFront old out h.printed
      front_rest (front, back, parts, grew) =
          (h.put ++ front, back, h.parts ∙ ap (λ l. h.put ++ l) parts ∙ sym (append_assoc h.put front back), grew_on old new out h.put front h.grew grew)

      -- how the ticks end, where the gathered lines are put at last
      rest_put : (rest : List ℕ) (due result : Finish) → rest ≡ lines → (Grew old out h.printed → Ends out due) → RestPut rest due new out result → Ends out result
      rest_put rest due result same whole (inl p) = subst (Ends out) (sym p.0) (whole (whole_rest (subst (Grew new out) same p.1)))
      rest_put rest due result same whole (inr (inl p)) =
          subst (Ends out) (sym p.0) (h.printed, front_lined, rose_first out.faults p.1, front_rest (subst (GrewByFront new out) same p.2))
      rest_put rest due result same whole (inr (inr p)) = subst (Ends out) (sym p.0) (h.printed, front_lined, front_rest (subst (GrewByFront new out) same p.1))

      pub all_run : (rest : List ℕ) (result : Finish) → rest ≡ lines → ran (of now) (TraceSpells trace) h.printed → RestPut rest finish.AllRun new out result → Ends out result
      all_run rest result same r = rest_put rest finish.AllRun result same (λ grew. (h.printed, ran_first (TraceSpells trace) h.printed r, grew))

      pub memory_put : (rest : List ℕ) (result : Finish) → rest ≡ lines → RestPut rest finish.NoMemory new out result → Ends out result
      memory_put rest result same = rest_put rest finish.NoMemory result same (λ grew. (h.printed, front_lined, (h.printed, [], sym (append-nil h.printed), grew)))

    -- a step gave one more line
    module _ (next : R) (stays : of next ≡ of now) (line more : List ℕ) (longer : more ≡ lines ++ line) (made : HasMade next (h.printed ++ line)) where
      stays_on : of next ≡ of first
      stays_on = stays ∙ h.stays

      next_ran : ran (of first) (SaysFront trace) (h.printed ++ line)
      next_ran = subst (λ (t : T). ran t (SaysFront trace) (h.printed ++ line)) stays_on (made_front next (h.printed ++ line) made)

      next_parts : h.printed ++ line ≡ h.put ++ more
      next_parts = ap (λ l. l ++ line) h.parts ∙ append_assoc h.put lines line ∙ ap (λ l. h.put ++ l) (sym longer)

      module _ (ready : IsReady next) (later : place now < place next) where
        next_far : count + 1 ≤ place next
        next_far = let far : count ≤ place now = h.far in omega arith

        -- which is gathered
        pub more_gathered : Lining IsReady of place HasMade first next old new more (count + 1)
        more_gathered = record {
          ready = ready;
          stays = stays_on;
          far = next_far;
          printed = h.printed ++ line;
          made = made;
          put = h.put;
          parts = next_parts;
          grew = h.grew;
          faults = h.faults;
        }

        -- which the output took with those before it
        pub all_put : (out : SinkSeen) (none : List ℕ) → none ≡ [] → Grew new out more → out.faults ≡ new.faults → Lining IsReady of place HasMade first next old out none (count + 1)
        all_put out none empty grew faults = record {
          ready = ready;
          stays = stays_on;
          far = next_far;
          printed = h.printed ++ line;
          made = made;
          put = h.printed ++ line;
          parts = sym (ap (λ l. (h.printed ++ line) ++ l) empty ∙ append-nil (h.printed ++ line));
          grew = subst (Grew old out) (sym next_parts) (grew_on old new out h.put more h.grew grew);
          faults = faults ∙ h.faults;
        }

      -- or of which it took a front
      pub front_put : (out : SinkSeen) → (front back : List ℕ) → more ≡ front ++ back → Grew new out front
          → (printed : List ℕ) × ran (of first) (SaysFront trace) printed × GrewByFront old out printed
      front_put out front back parts grew = (
        h.printed ++ line,
        next_ran,
        (h.put ++ front, back, next_parts ∙ ap (λ l. h.put ++ l) parts ∙ sym (append_assoc h.put front back), grew_on old new out h.put front h.grew grew),
      )

    -- a step gave no line, for a reason
    pub stopped : (HasNext : List ℕ → Type 0) (why : Stop) (out : SinkSeen) (rest : List ℕ) (result : Finish)
        → Steps (ran (of now)) (lacked (of now)) trace HasNext h.printed lines rest (Err (Fault why)) → RestPut rest (finish_for why) new out result → Ends out result
    stopped HasNext (stop.BadLine fault) out rest result stops =
        rest_put out rest (finish.BadLine fault) result stops.0 (λ grew. (h.printed, ran_first (λ s init ticks. BadLine trace s init ticks fault) h.printed stops.1, front_lined, grew))
    stopped HasNext (stop.Lacking lack) out rest result stops =
        rest_put out rest (finish.Lacking lack) result stops.0 (λ grew. (h.printed, lacked_first lack h.printed stops.1, front_lined, grew))

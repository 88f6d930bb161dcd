-- From how the parts of a simulation end to what the whole does.
use Rattle.std.proofs.Common.{◌≡◌, ℕ, ◌<◌, List, [], length, Option, IfSome, ◌⊎◌, Err, inl, inr, refl, sym, subst, append-nil}
use Rattle.fir_io.specs.declared.ports.FileFault.{FileFault}
use Rattle.fir_io.specs.declared.ports.FileFault.TheVariants as file
use Rattle.fir_io.specs.Ports.{FilesSeen, SinkSeen, Rose, Grew, Kept, GrewByFront}
use Rattle.fir_io.specs.working.Ports.{ReadShows}
use Rattle.trace_text.specs.FaultTexts.{fault_text}
use Rattle.trace_lines.specs.declared.lines.Finish.{Finish}
use Rattle.trace_lines.specs.declared.lines.Finish.TheVariants as finish
use Rattle.trace_lines.specs.Saying.{SaysBadly, lack_line}
use Rattle.trace_lines.proofs.Kept.{kept_same}
use Rattle.fir_cli.specs.declared.status.Status.{Status}
use Rattle.fir_cli.specs.declared.status.Status.TheVariants.{Done, Refused, Usage, Unread, Unwritten, NoMemory, BadTrace, BadVerilog, TooLong}
use Rattle.fir_cli.specs.Messages.{unread_line, too_long_line, unwritten_line, memory_line}
use Rattle.fir_cli.specs.Outside.{IsRead, Outside, outside, limit}
use Rattle.fir_cli.specs.working.Endings.{Said, Complained, Untaken}
use Rattle.trace_command.specs.Simulates.{SimulationMeaning, SimulationFiles, IsAsked, DueAtOnce, BeganTicks, MetBadLine, MetLack, EndsAtOnce, EndsLacking, Simulates}
use Rattle.trace_command.specs.working.Laws.{FrontsBegin, IsOfRefusal}
use Rattle.trace_command.specs.working.SimulationEndings.{BeganLines, RanTicks, FinishSaid, NotRead, OfText}

-- what was grown by, was grown by a front of it
whole_front : (old new : SinkSeen) (piece : List ℕ) → Grew old new piece → GrewByFront old new piece
whole_front old new piece grew = (piece, [], sym (append-nil piece), grew)

-- a file was not read, and it was said why
pub untaken_ended : (name : List ℕ) (files files' : FilesSeen) (out err err' : SinkSeen) (fault : FileFault) (ending : Status)
    → ReadShows limit name files files' (Err fault) → Untaken name fault err err' ending → NotRead name (outside files out err) (outside files' out err') ending
untaken_ended name files files' out err err' file.Failed ending shows h = (refl, inl (shows, h))
untaken_ended name files files' out err err' file.TooLong ending shows h = (refl, inr (inl ((shows.0, shows.1), h)))
untaken_ended name files files' out err err' file.Memory ending shows h = (refl, inr (inr h))

module _ (k : SimulationMeaning) (of_refusal : IsOfRefusal k.status) (fronts_begin : FrontsBegin k) (s : SimulationFiles) (files files' : FilesSeen)
    (out out' err err' : SinkSeen) where
  abbrev before : Outside
  before = outside files out err

  abbrev after : Outside
  after = outside files' out' err'

  abbrev Ends : Status → Type 0
  Ends = Simulates k s before after

  kept : out' ≡ out → Kept out out'
  kept same = subst (λ o. Kept out o) (sym same) (kept_same out)

  -- the line on memory was put, or was not
  memory_said : (ending : Status) → (Kept out out' ⊎ BeganTicks k s before after) → Said memory_line NoMemory err err' ending → Ends ending
  memory_said ending holds (inl p) = subst Ends (sym p.0) (holds, inl p.1)
  memory_said ending holds (inr (inl p)) = subst Ends (sym p.0) (inr (memory_line, p.1, p.2, inr (inr (inr (refl, holds)))))
  memory_said ending holds (inr (inr p)) = subst Ends (sym p.0) (holds, inr p.1)

  -- a line that was due before the ticks was put, or was not
  said_at_once : (due : Status) (line : List ℕ) (ending : Status) → DueAtOnce k s before after due line → out' ≡ out → (EndsAtOnce k s before after due → Ends due) → Said line due err err' ending → Ends ending
  said_at_once due line ending cause same whole (inl p) = subst Ends (sym p.0) (whole (line, cause, same, p.1))
  said_at_once due line ending cause same whole (inr (inl p)) = subst Ends (sym p.0) (inr (line, p.1, p.2, inl (due, cause, kept same)))
  said_at_once due line ending cause same whole (inr (inr p)) = subst Ends (sym p.0) (inl (kept same), inr p.1)

  told_at_once : (due : Status) (line : List ℕ) (ending : Status) → DueAtOnce k s before after due line → out' ≡ out → (EndsAtOnce k s before after due → Ends due) → Complained line due err err' ending → Ends ending
  told_at_once due line ending cause same whole (inl h) = said_at_once due line ending cause same whole h
  told_at_once due line ending cause same whole (inr h) = memory_said ending (inl (kept same)) h

  -- a file was not read
  pub not_read : (name : List ℕ) (ending : Status) → IsAsked k s before name → NotRead name before after ending → Ends ending
  not_read name ending asked (same, inl (rose, h)) =
      told_at_once Unread (unread_line name) ending (name, asked, rose, refl) same (λ e. e) h
  not_read name ending asked (same, inr (inl (long, h))) =
      told_at_once TooLong (too_long_line name) ending (name, asked, long.0, long.1, refl) same (λ e. e) h
  not_read name ending asked (same, inr (inr h)) = memory_said ending (inl (kept same)) h

  -- a status of refusals ends as others do
  due_refused : (due : Status) (line : List ℕ) → IsOfRefusal due → (due ≡ k.status) × (text : List ℕ) × IsRead s.source before text × k.refuses text line → DueAtOnce k s before after due line
  due_refused Refused line of why = why
  due_refused BadVerilog line of why = why
  due_refused Done line of why = absurd of
  due_refused Usage line of why = absurd of
  due_refused Unread line of why = absurd of
  due_refused Unwritten line of why = absurd of
  due_refused NoMemory line of why = absurd of
  due_refused BadTrace line of why = absurd of
  due_refused TooLong line of why = absurd of

  ends_refused : (due : Status) → IsOfRefusal due → EndsAtOnce k s before after due ⊎ EndsLacking k s before after due → Ends due
  ends_refused Refused of h = h
  ends_refused BadVerilog of h = h
  ends_refused Done of h = absurd of
  ends_refused Usage of h = absurd of
  ends_refused Unread of h = absurd of
  ends_refused Unwritten of h = absurd of
  ends_refused NoMemory of h = absurd of
  ends_refused BadTrace of h = absurd of
  ends_refused TooLong of h = absurd of

  module _ (text : List ℕ) (read_text : IsRead s.source before text) where
    -- the text was refused
    refused : (line : List ℕ) (ending : Status) → k.refuses text line → out' ≡ out → Said line k.status err err' ending → Ends ending
    refused line ending why same =
        said_at_once k.status line ending (due_refused k.status line of_refusal (refl, text, read_text, why)) same (λ e. ends_refused k.status of_refusal (inl e))

    module _ (trace : List ℕ) (read_trace : IsRead s.trace before trace) where
      began : BeganLines k text trace out out' → BeganTicks k s before after
      began h = record {
        text = text;
        trace = trace;
        printed = h.0;
        read_text = read_text;
        read_trace = read_trace;
        prints = h.1;
        begins = fronts_begin text trace h.0 h.1;
        front = h.2;
      }

      began_or_kept : (Kept out out' ⊎ BeganLines k text trace out out') → Kept out out' ⊎ BeganTicks k s before after
      began_or_kept (inl holds) = inl holds
      began_or_kept (inr h) = inr (began h)

      -- the output failed
      unwritten_said : (ending : Status) → BeganLines k text trace out out' → Rose out.faults out'.faults → Said unwritten_line Unwritten err err' ending → Ends ending
      unwritten_said ending h rose (inl p) = subst Ends (sym p.0) (inl (began h, rose, inl p.1))
      unwritten_said ending h rose (inr (inl p)) = subst Ends (sym p.0) (inl (began h, rose, inr (p.1, p.2)))
      unwritten_said ending h rose (inr (inr p)) = subst Ends (sym p.0) (inr (began h), inr p.1)

      -- a bad line ended the ticks
      met : (line printed : List ℕ) → k.prints text (SaysBadly trace line) printed → Grew out out' printed → MetBadLine k s before after line
      met line printed prints grew = record {
        text = text;
        trace = trace;
        printed = printed;
        read_text = read_text;
        read_trace = read_trace;
        prints = prints;
        whole = grew;
      }

      bad_said : (line : List ℕ) (ending : Status) → MetBadLine k s before after line → BeganLines k text trace out out' → Complained line BadTrace err err' ending → Ends ending
      bad_said line ending m h (inl (inl p)) = subst Ends (sym p.0) (line, m, p.1)
      bad_said line ending m h (inl (inr (inl p))) = subst Ends (sym p.0) (inr (line, p.1, p.2, inr (inl m)))
      bad_said line ending m h (inl (inr (inr p))) = subst Ends (sym p.0) (inr (began h), inr p.1)
      bad_said line ending m h (inr said) = memory_said ending (inr (began h)) said

      -- a tick that lacks a value ended them
      lacking : (line printed : List ℕ) → k.lacks text trace line printed → Grew out out' printed → MetLack k s before after line
      lacking line printed lacks grew = record {
        text = text;
        trace = trace;
        printed = printed;
        read_text = read_text;
        read_trace = read_trace;
        lacks = lacks;
        whole = grew;
      }

      lack_said : (line : List ℕ) (ending : Status) → MetLack k s before after line → BeganLines k text trace out out' → Complained line k.status err err' ending → Ends ending
      lack_said line ending m h (inl (inl p)) = subst Ends (sym p.0) (ends_refused k.status of_refusal (inr (refl, line, m, p.1)))
      lack_said line ending m h (inl (inr (inl p))) = subst Ends (sym p.0) (inr (line, p.1, p.2, inr (inr (inl m))))
      lack_said line ending m h (inl (inr (inr p))) = subst Ends (sym p.0) (inr (began h), inr p.1)
      lack_said line ending m h (inr said) = memory_said ending (inr (began h)) said

      -- the ticks were run, and it was said how they ended
      traced : (how : Finish) (ending : Status) → RanTicks k text trace out out' how → FinishSaid k.status trace how err err' ending → Ends ending
      traced finish.AllRun ending h said = subst Ends (sym said.0) (text, trace, h.0, read_text, read_trace, h.1, h.2, said.1)
      traced (finish.BadLine fault) ending h said =
          bad_said (fault_text fault h.bad.bad) ending (met (fault_text fault h.bad.bad) h.printed h.prints h.grew) (h.printed, h.front, whole_front out out' h.printed h.grew)
          (said h.shape h.init h.ticks h.bad)
      traced (finish.Lacking lack) ending h said =
          lack_said (lack_line lack) ending (lacking (lack_line lack) h.0 h.1 h.3) (h.0, h.2, whole_front out out' h.0 h.3) said
      traced finish.Unwritten ending h said = unwritten_said ending h.0 h.1 said
      traced finish.NoMemory ending h said = memory_said ending (began_or_kept h) said

-- the files before the trace was asked tell what they told, and none failed
pub record AsBefore (files between : FilesSeen) : Type 0 where
  pub told : between.told ≡ files.told
  pub faults : between.faults ≡ files.faults

module _ (k : SimulationMeaning) (of_refusal : IsOfRefusal k.status) (fronts_begin : FrontsBegin k) (s : SimulationFiles) (files between files' : FilesSeen)
    (out out' err err' : SinkSeen) (as_before : AsBefore files between) where
  read_before : (name bytes : List ℕ) → IsRead name (outside between out err) bytes → IsRead name (outside files out err) bytes
  read_before name bytes h =
      record { told = subst (λ (t : List ℕ → Option (List ℕ)). IfSome (t name) (λ content. bytes ≡ content)) as_before.told h.told; short = h.short }

  not_read_before : (name : List ℕ) (ending : Status) → NotRead name (outside between out err) (outside files' out' err') ending → NotRead name (outside files out err) (outside files' out' err') ending
  not_read_before name ending (same, inl (rose, h)) = (same, inl (subst (λ n. Rose n files'.faults) as_before.faults rose, h))
  not_read_before name ending (same, inr (inl (long, h))) =
      (same, inr (inl ((long.0, subst (λ (t : List ℕ → Option (List ℕ)). IfSome (t name) (λ content. limit < length content)) as_before.told long.1), h)))
  not_read_before name ending (same, inr (inr h)) = (same, inr (inr h))

  -- what was done with the text is what is done for both names
  pub text_ended : (text : List ℕ) (ending : Status) → IsRead s.source (outside files out err) text
      → OfText k text s.trace (outside between out err) (outside files' out' err') ending → Simulates k s (outside files out err) (outside files' out' err') ending
  text_ended text ending read (inl (taken, inl h)) =
      traced k of_refusal fronts_begin s files files' out out' err err' text read h.0 (read_before s.trace h.0 h.1) h.2.0 ending h.2.1 h.2.2
  text_ended text ending read (inl (taken, inr h)) =
      not_read k of_refusal fronts_begin s files files' out out' err err' s.trace ending (inr (refl, text, read, taken)) (not_read_before s.trace ending h)
  text_ended text ending read (inr (inl (line, why, same, h))) = refused k of_refusal fronts_begin s files files' out out' err err' text read line ending why same h
  text_ended text ending read (inr (inr (same, h))) =
      memory_said k of_refusal fronts_begin s files files' out out' err err' ending (inl (kept k of_refusal fronts_begin s files files' out out' err err' same)) h

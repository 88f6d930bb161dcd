use Rattle.ver_lex.proofs.Cuts.{has_tokens_or_stops}
use Rattle.ver_lex.proofs.OneCut.{never_both, stops_once}
use Rattle.ver_lex.proofs.laws.texts_have_tokens_or_stop_once.Goals as goal

pub returns-clause-either : goal.returns-clause-either
returns-clause-either c = has_tokens_or_stops

pub returns-clause-never_both : goal.returns-clause-never_both
returns-clause-never_both c = never_both

pub returns-clause-once : goal.returns-clause-once
returns-clause-once c = stops_once

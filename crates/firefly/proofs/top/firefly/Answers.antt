use Rattle.std.proofs.Common.{◌≡◌, ◌⊎◌, refl, sym, subst, inl, inr, rules}
use Rattle.command_line.specs.Grammar.{HasOptions, Task}
use Rattle.firefly.specs.Top.{Effects, Answers, WordsWant}
use Rattle.command_endings.specs.declared.status.Status.{Status}
use Rattle.firefly.proofs.TreeLooks.{kept-same, own-same}
use Rattle.firefly.proofs.top.firefly.Goals as goal

answered : (t u : Task) (e : Effects) (status : Status) → t ≡ u → Answers u e status → Answers t e status ⊎ (HasOptions t × WordsWant e status)
answered t u e status is a = inl (subst (λ (x : Task). Answers x e status) (sym is) a)

pub returns-in-Ok-Check : goal.returns-in-Ok-Check
returns-in-Ok-Check g c =
    record {
      usage = λ none. absurd (none _ c.in-Ok-Check.ensures.said);
      answers = λ t says. let k = rw c.in-Ok-Check.field-0-is at c.in-Ok-Check.ensures in answered t _ _ _ (k.only t says) (c.run_check.ensures.answers, c.run_check.ensures.exact, c.run_check.ensures.reported, refl);
      kept = λ _. kept-same _ c.requires.agree;
      own = own-same _ c.requires.agree;
    }

pub returns-in-Ok-Run : goal.returns-in-Ok-Run
returns-in-Ok-Run g c =
    record {
      usage = λ none. absurd (none _ c.in-Ok-Run.ensures.said);
      answers = λ t says. let k = rw c.in-Ok-Run.field-0-is at c.in-Ok-Run.ensures in answered t _ _ _ (k.only t says) (c.run_input.ensures.answers, c.run_input.ensures.exact, c.run_input.ensures.reported, refl);
      kept = λ _. kept-same _ c.requires.agree;
      own = own-same _ c.requires.agree;
    }

pub returns-in-Ok-Index : goal.returns-in-Ok-Index
returns-in-Ok-Index g c =
    record {
      usage = λ none. absurd (none _ c.in-Ok-Index.ensures.said);
      answers = λ t says. let k = rw c.in-Ok-Index.field-0-is at c.in-Ok-Index.ensures in answered t _ _ _ (k.only t says) (c.run_index.ensures.answers, c.run_index.ensures.spared, (refl, refl));
      kept = c.run_index.ensures.kept;
      own = c.run_index.ensures.own;
    }

pub returns-in-Ok-Trace : goal.returns-in-Ok-Trace
returns-in-Ok-Trace g c =
    record {
      usage = λ none. absurd (none _ c.in-Ok-Trace.ensures.said);
      answers = λ t says. let k = rw c.in-Ok-Trace.field-0-is at c.in-Ok-Trace.ensures in answered t _ _ _ (k.only t says) (c.run_trace.ensures.answers, c.run_trace.ensures.spared, (refl, refl));
      kept = c.run_trace.ensures.kept;
      own = c.run_trace.ensures.own;
    }

pub returns-in-Ok-Sample : goal.returns-in-Ok-Sample
returns-in-Ok-Sample g c =
    record {
      usage = λ none. absurd (none _ c.in-Ok-Sample.ensures.said);
      answers = λ t says. let k = rw c.in-Ok-Sample.field-0-is at c.in-Ok-Sample.ensures in answered t _ _ _ (k.only t says) (c.run_sample.ensures, (refl, refl), refl);
      kept = λ _. kept-same _ c.requires.agree;
      own = own-same _ c.requires.agree;
    }

pub returns-in-Ok-Order : goal.returns-in-Ok-Order
returns-in-Ok-Order g c =
    record {
      usage = λ none. absurd (none _ c.in-Ok-Order.ensures.said);
      answers = λ t says. let k = rw c.in-Ok-Order.field-0-is at c.in-Ok-Order.ensures in answered t _ _ _ (k.only t says) (c.run_order.ensures.answers, c.run_order.ensures.exact, c.run_order.ensures.reported, refl);
      kept = λ _. kept-same _ c.requires.agree;
      own = own-same _ c.requires.agree;
    }

pub returns-in-Ok-Jobs : goal.returns-in-Ok-Jobs
returns-in-Ok-Jobs g c =
    record {
      usage = λ none. absurd (none _ c.in-Ok-Jobs.ensures.said);
      answers = λ t says. let k = rw c.in-Ok-Jobs.field-0-is at c.in-Ok-Jobs.ensures in answered t _ _ _ (k.only t says) (c.run_jobs_command.ensures.answers, c.run_jobs_command.ensures.exact, c.run_jobs_command.ensures.reported, refl);
      kept = λ _. kept-same _ c.requires.agree;
      own = own-same _ c.requires.agree;
    }

pub run_jobs_command-requires-clause-some : goal.run_jobs_command-requires-clause-some
run_jobs_command-requires-clause-some g c κs within = (let k = rw c.in-Ok-Jobs.field-0-is at c.in-Ok-Jobs.ensures in k.in_range.0)

pub run_jobs_command-requires-clause-few : goal.run_jobs_command-requires-clause-few
run_jobs_command-requires-clause-few g c κs within = (let k = rw c.in-Ok-Jobs.field-0-is at c.in-Ok-Jobs.ensures in k.in_range.1)

pub returns-in-Ok-Find : goal.returns-in-Ok-Find
returns-in-Ok-Find g c =
    record {
      usage = λ none. absurd (none _ c.in-Ok-Find.ensures.said);
      answers = λ t says. let k = rw c.in-Ok-Find.field-0-is at c.in-Ok-Find.ensures in answered t _ _ _ (k.only t says) (c.run_find.ensures.answers, c.run_find.ensures.exact, c.run_find.ensures.reported, refl);
      kept = λ _. kept-same _ c.requires.agree;
      own = own-same _ c.requires.agree;
    }

pub returns-in-Ok-Rounds : goal.returns-in-Ok-Rounds
returns-in-Ok-Rounds g c =
    record {
      usage = λ none. absurd (none _ c.in-Ok-Rounds.ensures.said);
      answers = λ t says. let k = rw c.in-Ok-Rounds.field-0-is at c.in-Ok-Rounds.ensures in answered t _ _ _ (k.only t says) (c.run_rounds.ensures, (refl, refl), refl);
      kept = λ _. kept-same _ c.requires.agree;
      own = own-same _ c.requires.agree;
    }

pub run_rounds-requires-clause-threads : goal.run_rounds-requires-clause-threads
run_rounds-requires-clause-threads g c κs within = (let k = rw c.in-Ok-Rounds.field-0-is at c.in-Ok-Rounds.ensures in (k.in_range.0, k.in_range.1))

pub run_rounds-requires-clause-rounds : goal.run_rounds-requires-clause-rounds
run_rounds-requires-clause-rounds g c κs within = (let k = rw c.in-Ok-Rounds.field-0-is at c.in-Ok-Rounds.ensures in (k.in_range.2, k.in_range.3))

pub returns-in-Err-Usage : goal.returns-in-Err-Usage
returns-in-Err-Usage g c =
    let none = c.in-Err-Usage.ensures.usage (search rules) in
    record {
      usage = λ silent. inl (c.ends.ensures.status, refl, (refl, refl), (refl, refl), c.ends.ensures.notes);
      answers = λ t says. absurd (none t says);
      kept = λ _. kept-same _ c.requires.agree;
      own = own-same _ c.requires.agree;
    }

pub returns-in-Err-Memory : goal.returns-in-Err-Memory
returns-in-Err-Memory g c =
    let memory = c.in-Err-Memory.ensures.memory (search rules) in
    record {
      usage = λ none. inr (c.in-Err-Memory.ensures.begun (search rules), (c.ends-in-Err-Memory.ensures.status, refl, (refl, refl), (refl, refl), c.ends-in-Err-Memory.ensures.notes));
      answers = λ t says. inr (memory t says, (c.ends-in-Err-Memory.ensures.status, refl, (refl, refl), (refl, refl), c.ends-in-Err-Memory.ensures.notes));
      kept = λ _. kept-same _ c.requires.agree;
      own = own-same _ c.requires.agree;
    }

pub run_index-requires-clause-range : goal.run_index-requires-clause-range
run_index-requires-clause-range g c κs within = (let k = rw c.in-Ok-Index.field-0-is at c.in-Ok-Index.ensures in k.in_range)

pub run_sample-requires-clause-some : goal.run_sample-requires-clause-some
run_sample-requires-clause-some g c κs within = (let k = rw c.in-Ok-Sample.field-0-is at c.in-Ok-Sample.ensures in k.in_range.0)

pub run_sample-requires-clause-few : goal.run_sample-requires-clause-few
run_sample-requires-clause-few g c κs within = (let k = rw c.in-Ok-Sample.field-0-is at c.in-Ok-Sample.ensures in k.in_range.1)

pub run_trace-requires-clause-range : goal.run_trace-requires-clause-range
run_trace-requires-clause-range g c κs within = (let k = rw c.in-Ok-Trace.field-0-is at c.in-Ok-Trace.ensures in k.in_range)

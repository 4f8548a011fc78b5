use Rattle.std.proofs.Common.{◌≡◌, map, sym, ap, subst, ◌∙◌}
use Rattle.thread_crew.proofs.Zips.{each_image, zip_image}
use Rattle.thread_crew.proofs.calls.run_crew.Goals as goal

pub run_tasks-requires-clause-jobs : goal.run_tasks-requires-clause-jobs
run_tasks-requires-clause-jobs g c κs within =
    let made = c.calls_of.ensures in
    each_image _ _ (λ x. x.f.now ≡ c.args.f.now) (λ x. x.job) (λ b p e. subst (λ f. g.F.Fn.pre f (b.job, tt)) (sym e) p) c.args.jobs.items c.calls_of.result.items made.0 c.requires.jobs made.1

pub returns-in-Ok-run_tasks-clause-done : goal.returns-in-Ok-run_tasks-clause-done
returns-in-Ok-run_tasks-clause-done g c =
    let made = c.calls_of.ensures in
    zip_image (λ j x. g.F.Fn.post c.args.f.now (j, tt) x) _ (λ x. x.f.now ≡ c.args.f.now) (λ x. x.job) (λ b r e h. subst (λ f. g.F.Fn.post f (b.job, tt) r) e h) c.args.jobs.items c.calls_of.result.items c.in-Ok-run_tasks.finished.results.items made.0 made.1 c.in-Ok-run_tasks.ensures.done

pub returns-in-Err-clause-jobs_back : goal.returns-in-Err-clause-jobs_back
returns-in-Err-clause-jobs_back g c = c.jobs_of.ensures ∙ (ap (λ v. map (λ x. x.job) v.items) c.in-Err.ensures.back.0 ∙ c.calls_of.ensures.0)

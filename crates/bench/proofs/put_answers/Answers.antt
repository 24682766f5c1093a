-- `bench::put_answers` meets its contract. Assumes nothing.
use native.Mathlib.Omega.{arith}
use Rattle.bench.proofs.Telling.{answers_one, answers_two}
use Rattle.bench.proofs.put_answers.Goals as goal

pub returns-then-skeletons-lt2-clause-text : goal.returns-then-skeletons-lt2-clause-text
returns-then-skeletons-lt2-clause-text c = answers_one c.if-skeletons-lt2.true c.put_skeleton.ensures.text

pub returns-clause-text : goal.returns-clause-text
returns-clause-text c =
    answers_two (omega arith) c.put_skeleton.ensures.text c.put_skeleton-2.ensures.text c.put_list.ensures.text

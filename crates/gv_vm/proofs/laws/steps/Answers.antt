use Rattle.gv_vm.specs.Headline.{Says}
use Rattle.gv_vm.proofs.AlikeStepLemmas.{step_alike}
use Rattle.gv_vm.proofs.GoingOnLemmas.{as_run}
use Rattle.gv_vm.proofs.laws.steps.Goals as goal

pub returns-clause-function : goal.returns-clause-function
returns-clause-function c = λ w w' x x' event event' reply reply' alike same ample ample' is is'. step_alike w w' alike event event' reply reply' x x' same ample ample' is is'

pub returns-clause-wanting : goal.returns-clause-wanting
returns-clause-wanting c = as_run (λ before event reply after. Unit {0})

pub returns-clause-headline : goal.returns-clause-headline
returns-clause-headline c = as_run Says

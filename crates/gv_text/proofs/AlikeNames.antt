-- A request of the same clauses is the same, where the same names are declared.
use Rattle.std.proofs.Common.{◌≡◌, ℕ, List, refl, sym, ap, ◌∙◌}
use Rattle.std.proofs.lemmas.Option.{same_Some}
use Rattle.gv_types.specs.declared.operation.Op.{Op}
use Rattle.gv_types.specs.declared.request.Point.{Point}
use Rattle.gv_types.specs.declared.request.Request.{Request}
use Rattle.gv_journal.specs.Bare.{BareRequest, bare_request}
use Rattle.gv_vm.specs.Alike.{AreAlikeReplies}
use Rattle.gv_vm.specs.declared.event.Reply.{Reply}
use Rattle.gv_lines.specs.OptionSteps.{all_read}
use Rattle.gv_lines.specs.Clause.{operations_of, waits_of, signals_of}
use Rattle.gv_lines.specs.declared.clause.Clause.{Clause}
use Rattle.gv_session.specs.Requests.{op_named, point_named, IsRequest}
use Rattle.gv_session.specs.Line.{declared}
use Rattle.gv_session.specs.State.{SessionState, Buffers}
use Rattle.gv_text.proofs.AlikeReplies.{ReadsAlike, same_said}

abbrev bare_of : List Op → List Point → List Point → BareRequest
bare_of ops waits signals = record { ops = ops; waits = waits; signals = signals }

pub requests_alike : (s s' : SessionState) (clauses : List Clause) (request request' : Request) → s.buffers ≡ s'.buffers → s.timelines ≡ s'.timelines →
    IsRequest s clauses request → IsRequest s' clauses request' → bare_request request ≡ bare_request request'
requests_alike s s' clauses request request' names timelines is is' =
    let ops : request.ops.items ≡ request'.ops.items =
    same_Some request.ops.items request'.ops.items
    (sym is.ops ∙ ap (λ (buffers : Buffers). all_read (op_named buffers) (operations_of clauses)) names ∙ is'.ops) in
    let waits : request.waits.items ≡ request'.waits.items =
    same_Some request.waits.items request'.waits.items
    (sym is.waits ∙ ap (λ (ts : List (List ℕ)). all_read (point_named ts) (waits_of clauses)) timelines ∙ is'.waits) in
    let signals : request.signals.items ≡ request'.signals.items =
    same_Some request.signals.items request'.signals.items
    (sym is.signals ∙ ap (λ (ts : List (List ℕ)). all_read (point_named ts) (signals_of clauses)) timelines ∙ is'.signals) in
    ap (λ (x : List Op). bare_of x request.waits.items request.signals.items) ops
    ∙ ap (λ (x : List Point). bare_of request'.ops.items x request.signals.items) waits
    ∙ ap (λ (x : List Point). bare_of request'.ops.items request'.waits.items x) signals

made_reads : (name : List ℕ) (buffers : Buffers) → ReadsAlike (λ reply. declared name reply buffers)
made_reads name buffers = record { not_put = λ fault request request'. refl; begun = λ job places places' same. refl }

-- a buffer is declared by both replies, or by none
pub declared_alike : (name : List ℕ) (reply reply' : Reply) (buffers buffers' : Buffers) → buffers ≡ buffers' → AreAlikeReplies reply reply' →
    declared name reply buffers ≡ declared name reply' buffers'
declared_alike name reply reply' buffers buffers' same alike =
    ap (declared name reply) same ∙ same_said (λ r. declared name r buffers') (made_reads name buffers') reply reply' alike

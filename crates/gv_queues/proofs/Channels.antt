-- Each queue has a channel of its own: when it is opened, and when its submitter and its worker have ended.
use Rattle.std.proofs.Common.{◌≡◌, ℕ, ◌+◌, ◌<◌, List, [], ◌∷◌, ◌++◌, length, map, get_or, sym, ap, ◌∙◌, subst, append_assoc, arith}
use Rattle.std.proofs.lemmas.List.{get_or_append_left, get_or-map, length-map, map-append}
use Rattle.gv_queues.specs.Ending.{AreClosed, AreInOrder, AreOnOwnChannels, EndOnOwnChannels, no_put, put_at}
use Rattle.gv_queues.specs.Submitting.{AreOpened, AreSameSubmitters, ChannelId, PutEndState, SubmitterState, no_channel, no_submitter, put_end_of, submitter_at}
use Rattle.gv_queues.specs.Working.{AreEndsOfWorkers, IsEndOfWorker, WorkerEndState, WorkerState, no_end, no_worker, worker_at}
use Rattle.gv_queues.proofs.QueueEnds.{each_more}

abbrev pub of_submitters : List SubmitterState → List ChannelId
of_submitters submitters = map (λ (s : SubmitterState). s.channel) submitters

abbrev pub of_workers : List WorkerState → List ChannelId
of_workers workers = map (λ (w : WorkerState). w.channel) workers

-- one queue more is opened
pub channels_more : (submitters more : List SubmitterState) (workers more' : List WorkerState) (s : SubmitterState) (w : WorkerState)
    → more ≡ submitters ++ s ∷ [] → more' ≡ workers ++ w ∷ [] → s.channel ≡ w.channel
    → of_submitters submitters ≡ of_workers workers → of_submitters more ≡ of_workers more'
channels_more submitters more workers more' s w is is' one same =
    ap of_submitters is ∙ (map-append (λ (x : SubmitterState). x.channel) submitters (s ∷ [])
    ∙ (ap (λ (l : List ChannelId). l ++ s.channel ∷ []) same ∙ (ap (λ (c : ChannelId). of_workers workers ++ c ∷ []) one
    ∙ (sym (map-append (λ (x : WorkerState). x.channel) workers (w ∷ [])) ∙ ap of_workers (sym is')))))

-- each queue's ends are of one channel, which knows the queue
pub own_channels : (limit depth timelines : ℕ) (submitters : List SubmitterState) (workers : List WorkerState)
    → AreOpened limit depth timelines submitters → of_submitters submitters ≡ of_workers workers → AreOnOwnChannels submitters workers
own_channels limit depth timelines submitters workers opened same = record {
  one = λ k lt.
      let long : length workers ≡ length submitters =
      sym (length-map workers (λ (w : WorkerState). w.channel)) ∙ (ap (λ (l : List ChannelId). length l) (sym same) ∙ length-map submitters (λ (s : SubmitterState). s.channel)) in
      let low : k < length workers = subst (λ (n : ℕ). k < n) (sym long) lt in
      sym (get_or-map (λ (s : SubmitterState). s.channel) submitters k no_submitter no_channel lt)
      ∙ (ap (λ (l : List ChannelId). get_or l k no_channel) same ∙ get_or-map (λ (w : WorkerState). w.channel) workers k no_worker no_channel low);
  apart = λ k other lt lt' e. sym (opened k lt).channel ∙ (ap (λ (c : ChannelId). c.queue) e ∙ (opened other lt').channel);
}

-- a submitter is closed on its own channel
pub closed_of : (old new : List SubmitterState) (puts : List PutEndState)
    → puts ≡ map put_end_of new → length new ≡ length old → AreSameSubmitters old new → AreClosed old puts
closed_of old new puts is even same k lt =
    let low : k < length new = subst (λ (n : ℕ). k < n) (ap (λ (l : List PutEndState). length l) is ∙ length-map new put_end_of) lt in
    let there : put_at puts k ≡ put_end_of (submitter_at new k) = ap (λ (l : List PutEndState). put_at l k) is ∙ get_or-map put_end_of new k no_submitter no_put low in
    ap (λ (p : PutEndState). p.channel) there ∙ ap (λ (s : SubmitterState). s.channel) (same k (subst (λ (n : ℕ). k < n) even low))

-- one worker more has ended
pub ended_more : (workers : List WorkerState) (ends longer : List WorkerEndState) (end : WorkerEndState)
    → longer ≡ ends ++ end ∷ [] → IsEndOfWorker (worker_at workers (length ends)) end → AreEndsOfWorkers workers ends → AreEndsOfWorkers workers longer
ended_more workers ends longer end is here each = each_more (λ k e. IsEndOfWorker (worker_at workers k) e) ends longer end is here each

-- the first of the workers, and so all of them where none is behind
pub worker_among : (first rest workers : List WorkerState) → first ++ rest ≡ workers → (k : ℕ) → k < length first → worker_at first k ≡ worker_at workers k
worker_among first rest workers all k lt =
    sym (get_or_append_left first rest no_worker k lt) ∙ ap (λ (l : List WorkerState). worker_at l k) all

pub ended_among : (first rest workers : List WorkerState) (ends : List WorkerEndState)
    → first ++ rest ≡ workers → length ends ≡ length first → AreEndsOfWorkers first ends → AreEndsOfWorkers workers ends
ended_among first rest workers ends all long each k d lt =
    subst (λ (w : WorkerState). IsEndOfWorker w (get_or ends k d)) (worker_among first rest workers all k (subst (λ (n : ℕ). k < n) long lt)) (each k d lt)

pub ended_in_order : (workers : List WorkerState) (ends : List WorkerEndState)
    → length ends < length workers + 1 → AreInOrder (λ (w : WorkerState). w.queue) workers → AreEndsOfWorkers workers ends → AreInOrder (λ (e : WorkerEndState). e.queue) ends
ended_in_order workers ends few order each k d lt = (each k d lt).queue ∙ order k no_worker (omega (arith, few, lt))

-- what is left of a queue is of the channel that it had
pub end_channels : (submitters : List SubmitterState) (workers : List WorkerState) (puts : List PutEndState) (ends : List WorkerEndState)
    → AreOnOwnChannels submitters workers → AreClosed submitters puts → AreEndsOfWorkers workers ends
    → length puts ≡ length submitters → length ends ≡ length submitters → EndOnOwnChannels puts ends
end_channels submitters workers puts ends own closed ended even same = record {
  one = λ k lt.
      let low : k < length submitters = subst (λ (n : ℕ). k < n) even lt in
      closed k lt ∙ (own.one k low ∙ sym (ended k no_end (subst (λ (n : ℕ). k < n) (sym same) low)).channel);
  apart = λ k other lt lt' e.
      own.apart k other (subst (λ (n : ℕ). k < n) even lt) (subst (λ (n : ℕ). other < n) even lt') (sym (closed k lt) ∙ (e ∙ closed other lt'));
}

-- one worker more was started, and the rest stand behind it
pub started_more : {H : Type 0} (f : H → WorkerState) (handles more : List H) (h : H) (w : WorkerState) (rest behind workers : List WorkerState)
    → more ≡ handles ++ h ∷ [] → f h ≡ w → rest ≡ w ∷ behind → map f handles ++ rest ≡ workers → map f more ++ behind ≡ workers
started_more f handles more h w rest behind workers is one front all =
    ap (λ l. map f l ++ behind) is
    ∙ (ap (λ (l : List WorkerState). l ++ behind) (map-append f handles (h ∷ []))
    ∙ (append_assoc (map f handles) (f h ∷ []) behind
    ∙ (ap (λ (x : WorkerState). map f handles ++ x ∷ behind) one ∙ (ap (λ (l : List WorkerState). map f handles ++ l) (sym front) ∙ all))))

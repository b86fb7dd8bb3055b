use Rattle.std.proofs.Common.{◌≡◌, ◌∙◌, ◌++◌, ◌∷◌, [], ◌+◌, ◌≤◌, length, rules, sym, ap, subst, vec_capacity}
use Rattle.gv_buffers.specs.Slots.{SlotsState, AreVacant}
use Rattle.gv_buffers.specs.Keys.{entries_of}
use Rattle.gv_buffers.proofs.Vacancy.{last_is_vacant}
use Rattle.gv_buffers.proofs.Keys.{AreSound-grown, entries_of-grown, put_in_vacant, put_in_new}
use Rattle.gv_buffers.proofs.slots.Slots.put_in.Goals as goal

pub invariant_of-self-in-Some : goal.invariant_of-self-in-Some
invariant_of-self-in-Some c =
    let s = c.self.inside in
    let grew = c.in_ok-reserve.ensures.rest_kept in
    let grown = c.reserve.new.self in
    let sound = AreSound-grown s.live grown s.keys.items (vec_capacity s.vacant) grew c.self.invariant in
    let seen = entries_of-grown s.live grown s.keys.items grew ∙ ap (λ (t : SlotsState). t.entries) c.self.view_is in
    let left : c.args.self.now.vacant ≡ c.pop.new.self.items ++ c.in-Some.index ∷ [] = sym (ap (λ (t : SlotsState). t.vacant) c.self.view_is) ∙ c.in-Some.ensures.items in
    let were = subst (AreVacant c.args.self.now.entries) left c.requires in
    let are : AreVacant (entries_of grown s.keys.items) (c.pop.new.self.items ++ c.in-Some.index ∷ []) = rw seen were in
    rw c.in-Some.ensures.capacity (put_in_vacant grown c.insert_reserved.new.self s.keys.items c.pop.new.self.items (vec_capacity s.vacant) c.in-Some.index c.insert_reserved.result c.args.buffer sound are c.insert_reserved.ensures.updates c.insert_reserved.ensures.was_vacant c.insert_reserved.ensures.len).sound

pub returns-in-Some-clause-was_vacant : goal.returns-in-Some-clause-was_vacant
returns-in-Some-clause-was_vacant c =
    let left : c.args.self.now.vacant ≡ c.pop.new.self.items ++ c.in-Some.index ∷ [] = sym (ap (λ (t : SlotsState). t.vacant) c.self.view_is) ∙ c.in-Some.ensures.items in
    let were = subst (AreVacant c.args.self.now.entries) left c.requires in
    (last_is_vacant c.args.self.now.entries c.pop.new.self.items c.in-Some.index were).nothing

pub returns-in-Some-clause-updates : goal.returns-in-Some-clause-updates
returns-in-Some-clause-updates c =
    let s = c.self.inside in
    let grew = c.in_ok-reserve.ensures.rest_kept in
    let grown = c.reserve.new.self in
    let sound = AreSound-grown s.live grown s.keys.items (vec_capacity s.vacant) grew c.self.invariant in
    let seen = entries_of-grown s.live grown s.keys.items grew ∙ ap (λ (t : SlotsState). t.entries) c.self.view_is in
    let left : c.args.self.now.vacant ≡ c.pop.new.self.items ++ c.in-Some.index ∷ [] = sym (ap (λ (t : SlotsState). t.vacant) c.self.view_is) ∙ c.in-Some.ensures.items in
    let were = subst (AreVacant c.args.self.now.entries) left c.requires in
    let are : AreVacant (entries_of grown s.keys.items) (c.pop.new.self.items ++ c.in-Some.index ∷ []) = rw seen were in
    rw (← seen) (put_in_vacant grown c.insert_reserved.new.self s.keys.items c.pop.new.self.items (vec_capacity s.vacant) c.in-Some.index c.insert_reserved.result c.args.buffer sound are c.insert_reserved.ensures.updates c.insert_reserved.ensures.was_vacant c.insert_reserved.ensures.len).updates

pub returns-in-Some-clause-count : goal.returns-in-Some-clause-count
returns-in-Some-clause-count c =
    let s = c.self.inside in
    let grew = c.in_ok-reserve.ensures.rest_kept in
    let grown = c.reserve.new.self in
    let sound = AreSound-grown s.live grown s.keys.items (vec_capacity s.vacant) grew c.self.invariant in
    let seen = entries_of-grown s.live grown s.keys.items grew ∙ ap (λ (t : SlotsState). t.entries) c.self.view_is in
    let left : c.args.self.now.vacant ≡ c.pop.new.self.items ++ c.in-Some.index ∷ [] = sym (ap (λ (t : SlotsState). t.vacant) c.self.view_is) ∙ c.in-Some.ensures.items in
    let were = subst (AreVacant c.args.self.now.entries) left c.requires in
    let are : AreVacant (entries_of grown s.keys.items) (c.pop.new.self.items ++ c.in-Some.index ∷ []) = rw seen were in
    rw (← seen) (put_in_vacant grown c.insert_reserved.new.self s.keys.items c.pop.new.self.items (vec_capacity s.vacant) c.in-Some.index c.insert_reserved.result c.args.buffer sound are c.insert_reserved.ensures.updates c.insert_reserved.ensures.was_vacant c.insert_reserved.ensures.len).count

pub returns-in-Some-clause-vacant : goal.returns-in-Some-clause-vacant
returns-in-Some-clause-vacant c =
    let s = c.self.inside in
    let grew = c.in_ok-reserve.ensures.rest_kept in
    let grown = c.reserve.new.self in
    let sound = AreSound-grown s.live grown s.keys.items (vec_capacity s.vacant) grew c.self.invariant in
    let seen = entries_of-grown s.live grown s.keys.items grew ∙ ap (λ (t : SlotsState). t.entries) c.self.view_is in
    let left : c.args.self.now.vacant ≡ c.pop.new.self.items ++ c.in-Some.index ∷ [] = sym (ap (λ (t : SlotsState). t.vacant) c.self.view_is) ∙ c.in-Some.ensures.items in
    let were = subst (AreVacant c.args.self.now.entries) left c.requires in
    let are : AreVacant (entries_of grown s.keys.items) (c.pop.new.self.items ++ c.in-Some.index ∷ []) = rw seen were in
    (put_in_vacant grown c.insert_reserved.new.self s.keys.items c.pop.new.self.items (vec_capacity s.vacant) c.in-Some.index c.insert_reserved.result c.args.buffer sound are c.insert_reserved.ensures.updates c.insert_reserved.ensures.was_vacant c.insert_reserved.ensures.len).are_vacant

pub invariant_of-self-2 : goal.invariant_of-self-2
invariant_of-self-2 c =
    let s = c.self.inside in
    let grew = c.in_ok-reserve.ensures.rest_kept in
    let grown = c.reserve.new.self in
    let seen = entries_of-grown s.live grown s.keys.items grew ∙ ap (λ (t : SlotsState). t.entries) c.self.view_is in
    let none : s.vacant.items ≡ [] = search rules in
    let same : c.reserve-2.new.self.items ≡ s.keys.items = search rules in
    let at : c.in-Ok.index ≡ length s.keys.items = search rules in
    let fits : length s.keys.items + 1 ≤ vec_capacity c.reserve-3.new.self = search rules in
    let sound = AreSound-grown s.live grown s.keys.items (vec_capacity s.vacant) grew c.self.invariant in
    let left : c.args.self.now.vacant ≡ [] = sym (ap (λ (t : SlotsState). t.vacant) c.self.view_is) ∙ none in
    let are : AreVacant (entries_of grown s.keys.items) [] = rw seen (subst (AreVacant c.args.self.now.entries) left c.requires) in
    let put = put_in_new grown c.insert_reserved-key.new.self s.keys.items (vec_capacity s.vacant) (vec_capacity c.reserve-3.new.self) c.in-Ok.index c.insert_reserved-key.result c.args.buffer sound are
    c.insert_reserved-key.ensures.updates c.insert_reserved-key.ensures.was_vacant c.insert_reserved-key.ensures.len at fits in
    rw (c.push_reserved.ensures.items, same) put.sound

pub returns-clause-updates : goal.returns-clause-updates
returns-clause-updates c =
    let s = c.self.inside in
    let grew = c.in_ok-reserve.ensures.rest_kept in
    let grown = c.reserve.new.self in
    let seen = entries_of-grown s.live grown s.keys.items grew ∙ ap (λ (t : SlotsState). t.entries) c.self.view_is in
    let none : s.vacant.items ≡ [] = search rules in
    let same : c.reserve-2.new.self.items ≡ s.keys.items = search rules in
    let at : c.in-Ok.index ≡ length s.keys.items = search rules in
    let fits : length s.keys.items + 1 ≤ vec_capacity c.reserve-3.new.self = search rules in
    let sound = AreSound-grown s.live grown s.keys.items (vec_capacity s.vacant) grew c.self.invariant in
    let left : c.args.self.now.vacant ≡ [] = sym (ap (λ (t : SlotsState). t.vacant) c.self.view_is) ∙ none in
    let are : AreVacant (entries_of grown s.keys.items) [] = rw seen (subst (AreVacant c.args.self.now.entries) left c.requires) in
    let put = put_in_new grown c.insert_reserved-key.new.self s.keys.items (vec_capacity s.vacant) (vec_capacity c.reserve-3.new.self) c.in-Ok.index c.insert_reserved-key.result c.args.buffer sound are
    c.insert_reserved-key.ensures.updates c.insert_reserved-key.ensures.was_vacant c.insert_reserved-key.ensures.len at fits in
    rw (c.push_reserved.ensures.items, same, ← seen) put.updates

pub returns-clause-count : goal.returns-clause-count
returns-clause-count c =
    let s = c.self.inside in
    let grew = c.in_ok-reserve.ensures.rest_kept in
    let grown = c.reserve.new.self in
    let seen = entries_of-grown s.live grown s.keys.items grew ∙ ap (λ (t : SlotsState). t.entries) c.self.view_is in
    let none : s.vacant.items ≡ [] = search rules in
    let same : c.reserve-2.new.self.items ≡ s.keys.items = search rules in
    let at : c.in-Ok.index ≡ length s.keys.items = search rules in
    let fits : length s.keys.items + 1 ≤ vec_capacity c.reserve-3.new.self = search rules in
    let sound = AreSound-grown s.live grown s.keys.items (vec_capacity s.vacant) grew c.self.invariant in
    let left : c.args.self.now.vacant ≡ [] = sym (ap (λ (t : SlotsState). t.vacant) c.self.view_is) ∙ none in
    let are : AreVacant (entries_of grown s.keys.items) [] = rw seen (subst (AreVacant c.args.self.now.entries) left c.requires) in
    let put = put_in_new grown c.insert_reserved-key.new.self s.keys.items (vec_capacity s.vacant) (vec_capacity c.reserve-3.new.self) c.in-Ok.index c.insert_reserved-key.result c.args.buffer sound are
    c.insert_reserved-key.ensures.updates c.insert_reserved-key.ensures.was_vacant c.insert_reserved-key.ensures.len at fits in
    rw (c.push_reserved.ensures.items, same, ← seen) put.count

pub returns-clause-vacant : goal.returns-clause-vacant
returns-clause-vacant c =
    let s = c.self.inside in
    let grew = c.in_ok-reserve.ensures.rest_kept in
    let grown = c.reserve.new.self in
    let seen = entries_of-grown s.live grown s.keys.items grew ∙ ap (λ (t : SlotsState). t.entries) c.self.view_is in
    let none : s.vacant.items ≡ [] = search rules in
    let same : c.reserve-2.new.self.items ≡ s.keys.items = search rules in
    let at : c.in-Ok.index ≡ length s.keys.items = search rules in
    let fits : length s.keys.items + 1 ≤ vec_capacity c.reserve-3.new.self = search rules in
    let sound = AreSound-grown s.live grown s.keys.items (vec_capacity s.vacant) grew c.self.invariant in
    let left : c.args.self.now.vacant ≡ [] = sym (ap (λ (t : SlotsState). t.vacant) c.self.view_is) ∙ none in
    let are : AreVacant (entries_of grown s.keys.items) [] = rw seen (subst (AreVacant c.args.self.now.entries) left c.requires) in
    let put = put_in_new grown c.insert_reserved-key.new.self s.keys.items (vec_capacity s.vacant) (vec_capacity c.reserve-3.new.self) c.in-Ok.index c.insert_reserved-key.result c.args.buffer sound are
    c.insert_reserved-key.ensures.updates c.insert_reserved-key.ensures.was_vacant c.insert_reserved-key.ensures.len at fits in
    let none_now : c.reserve-3.new.self.items ≡ [] = search rules in
    rw (c.push_reserved.ensures.items, same, none_now) put.are_vacant

-- A job that is among the users of a buffer is noted there.
use Rattle.std.proofs.Common.{◌≡◌, ℕ, true, is_some, refl, subst, Some, None, Option, List, position}
use Rattle.std.specs.List.{All}
use Rattle.std.proofs.lemmas.Bool.{eqb-true, false≢true}
use Rattle.std.proofs.lemmas.List.Quantifiers.{position-Some}
use Rattle.gv_buffers.specs.declared.usage.Usage.TheVariants.{Read}
use Rattle.gv_buffers.specs.declared.usage.User.{User}
use Rattle.gv_buffers.specs.Indices.{Notes, IsNoted}
use Rattle.gv_buffers.specs.declared.live_buffer.LiveBuffer.{LiveBuffer}
use Rattle.gv_buffers.specs.Slots.{buffer_at, AreNoted, IsUserIn}
use Rattle.std.specs.Option.{option_map}
use Rattle.gv_buffers.proofs.UsersAfterJoin.{is_of}

some_of : (o : Option ℕ) → is_some o ≡ true → (i : ℕ) × (o ≡ Some i)
some_of None found = absurd (false≢true found)
some_of (Some i) found = (i, refl)

-- what is noted for each user is noted for a job among them
pub noted_user : (notes : Notes) (index job : ℕ) (users : List User) → is_some (position (is_of job) users) ≡ true →
    All (λ u. IsNoted notes u.job index) users → IsNoted notes job index
noted_user notes index job users found noted =
    let no_one : User = record { job = 0; usage = Read } in
    let at = some_of (position (is_of job) users) found in
    let here = position-Some (is_of job) users at.0 no_one at.1 in
    subst (λ (j : ℕ). IsNoted notes j index) (eqb-true _ _ here.1) (noted at.0 no_one here.0)

-- so is a job that is among the users in a slot
pub noted_in_slot : (notes : Notes) (index job : ℕ) (slot : Option LiveBuffer) → IsUserIn job slot → AreNoted notes index (option_map (buffer_at index) slot) → IsNoted notes job index
noted_in_slot notes index job None is noted = absurd is
noted_in_slot notes index job (Some buffer) is noted = noted_user notes index job buffer.users.list.items is noted

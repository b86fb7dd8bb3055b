-- Worked examples of chunks: what they are together, which are chunks, and which are merged.
use Rattle.std.specs.Prelude.{◌≡◌, [], ◌∷◌, vec_len, vec_capacity}
use Rattle.std.specs.Global.{Vec}
use Rattle.gv_types.specs.declared.mapping.Mapping.{Mapping}
use Rattle.gv_chunks.specs.Chunks.{chunks_joined, AreChunks, AreMerged}

-- two mappings in a chunk, none in the next and one in the last are three in a row
abbrev pub ThreeInARow : Type 0
ThreeInARow = (a b c : Vec Mapping) (x y z : Mapping) → a.items ≡ x ∷ y ∷ [] → b.items ≡ [] → c.items ≡ z ∷ [] →
    chunks_joined (a ∷ b ∷ c ∷ []) ≡ x ∷ y ∷ z ∷ []

-- no chunk holds nothing
abbrev pub NoChunkHoldsNothing : Type 0
NoChunkHoldsNothing = chunks_joined [] ≡ []

-- a chunk has room for 128, and not for one less
abbrev pub RoomOfAChunk : Type 0
RoomOfAChunk = (a : Vec Mapping) → (vec_capacity a ≡ 128 → AreChunks (a ∷ [])) × (vec_capacity a ≡ 127 → ¬ (AreChunks (a ∷ [])))

-- one chunk is merged, whatever it holds
abbrev pub OneIsMerged : Type 0
OneIsMerged = (a : Vec Mapping) → AreMerged (a ∷ [])

-- 100 and 29 are too much for one chunk
abbrev pub TooMuchForOne : Type 0
TooMuchForOne = (a b : Vec Mapping) → vec_len a ≡ 100 → vec_len b ≡ 29 → AreMerged (a ∷ b ∷ [])

-- 100 and 28 fit
abbrev pub FitIntoOne : Type 0
FitIntoOne = (a b : Vec Mapping) → vec_len a ≡ 100 → vec_len b ≡ 28 → ¬ (AreMerged (a ∷ b ∷ []))

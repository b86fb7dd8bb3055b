-- The widths of the address space, each named once.
use Rattle.std.specs.Prelude.{ℕ, ◌^◌, ◌<◌}

-- how many pages the address space has
abbrev pub PAGES : ℕ
PAGES = 2 ^ 45

-- a page of the address space
abbrev pub IsPage : ℕ → Type 0
IsPage page = page < PAGES

-- how many bytes a page has
abbrev pub bytes_per_page : ℕ
bytes_per_page = 4096

-- how many pages a buffer may have
abbrev pub pages_per_buffer : ℕ
pages_per_buffer = 2 ^ 36

-- no mapping reaches past this page of its buffer
abbrev pub backing_pages : ℕ
backing_pages = 2 ^ 53

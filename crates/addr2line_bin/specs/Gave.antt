-- What a writer or a reader of std gave to a call.
-- Own: std's traits say what a call does to known bytes, and not which answer it gives. So this is
-- opaque, and nothing but the call itself shows it.

-- a call led from one state to another, and gave this
pub Gave : {S C : Type 0} → S → C → S → Type 0
Gave old call new = Unit {0}

-- for the answers of the methods of Handed, and for no other
pub gave : {S C : Type 0} (old : S) (call : C) (new : S) → Gave old call new
unfolding Gave
gave old call new = tt

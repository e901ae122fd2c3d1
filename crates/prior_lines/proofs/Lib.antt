mod FormLemmas
mod KeptLemmas
mod LineLemmas
mod NumberLemmas
mod RowsLemmas
mod SortedLemmas
mod StayLemmas
